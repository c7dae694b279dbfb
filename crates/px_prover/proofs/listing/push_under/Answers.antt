use Rattle.std.proofs.Common.{arith}
use Rattle.px_prover.proofs.UnderValues.{lists-end, lists-next, lists-start, tuple-long}
use Rattle.px_prover.proofs.listing.push_under.Goals as goal

pub loop-tuple-init : goal.loop-tuple-init
loop-tuple-init c = lists-start c.args.pattern.now c.args.tuples.now c.args.lists.now.items

pub list_under-requires-clause-count : goal.list_under-requires-clause-count
list_under-requires-clause-count c =
    tuple-long c.args.tuples.now c.args.pattern.now.variable_count c.loop-tuple.tuple-index _ c.as_slice.result.now c.loop-tuple-test.true
    c.tuple-item.is c.as_slice.ensures c.requires.tuples

pub loop-tuple-preserved : goal.loop-tuple-preserved
loop-tuple-preserved c =
    lists-next c.args.pattern.now c.args.tuples.now c.loop-tuple.tuple-index _ c.as_slice.result.now c.args.lists.now.items
    c.loop-tuple.lists.items c.push.new.items.items _
    c.loop-tuple-test.true c.tuple-item.is c.as_slice.ensures c.loop-tuple.invariant c.in_ok-list.ensures c.in_ok-push.ensures.ok

pub returns : goal.returns
returns c =
    lists-end c.args.pattern.now c.args.tuples.now c.loop-tuple.tuple-index c.args.lists.now.items c.loop-tuple.lists.items
    (omega (arith, c.loop-tuple-test.false)) c.loop-tuple.invariant
