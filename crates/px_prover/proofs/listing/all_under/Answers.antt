use Rattle.std.proofs.Common.{◌∙◌}
use Rattle.px_prover.proofs.UnderValues.{all-next, all-over, tuples-long}
use Rattle.px_prover.proofs.listing.all_under.Goals as goal

pub push_under-requires-clause-closed : goal.push_under-requires-clause-closed
push_under-requires-clause-closed c =
    all-over c.args.patterns.now c.loop-pattern.pattern-index _ c.loop-pattern-test.true c.pattern-item.is c.requires

pub push_under-requires-clause-tuples : goal.push_under-requires-clause-tuples
push_under-requires-clause-tuples c =
    tuples-long c.args.objects _ c.as_slice-each.result.now (c.as_slice-each.ensures.value ∙ c.in_ok-made.ensures)

pub loop-pattern-preserved : goal.loop-pattern-preserved
loop-pattern-preserved c =
    all-next c.args.objects c.args.patterns.now c.loop-pattern.pattern-index _ c.as_slice-each.result.now c.loop-pattern.lists.items
    c.push_under.new.lists.items c.loop-pattern-test.true c.pattern-item.is (c.as_slice-each.ensures.value ∙ c.in_ok-made.ensures)
    c.loop-pattern.invariant c.in_ok-push_under.ensures
