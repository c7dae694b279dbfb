use Rattle.std.proofs.Common.{◌∙◌, ap}
use Rattle.px_base.proofs.Loops.{said_no, said_yes}
use Rattle.px_entries.proofs.RestLaws.{rest-next_kept, rest-next_left}
use Rattle.px_diff.proofs.rest.rest_of.Goals.{then-not-is_only_added+in_ok-push, else-not-is_only_added}
use Rattle.px_diff.proofs.rest.rest_of.Goals as goal

pub loop-atom-preserved : goal.loop-atom-preserved
loop-atom-preserved c = elim c.if-not-is_only_added.branch [
  | then-not-is_only_added+in_ok-push w ↦
      rest-next_kept c.args.problem.now c.args.formula.now c.loop-atom.atom-index c.atom-item.result c.loop-atom.rest.items
      c.loop-atom-test.true c.atom-item.is c.loop-atom.invariant c.if-not-is_only_added.rest.items
      (said_no c.is_only_added.result c.is_only_added.ensures w.if-not-is_only_added.true)
      (ap (λ rest. rest.items) w.rest-is ∙ w.in_ok-push.ensures.ok)
  | else-not-is_only_added w ↦
      rest-next_left c.args.problem.now c.args.formula.now c.loop-atom.atom-index c.atom-item.result c.loop-atom.rest.items
      c.loop-atom-test.true c.atom-item.is c.loop-atom.invariant c.if-not-is_only_added.rest.items
      (said_yes c.is_only_added.result c.is_only_added.ensures w.if-not-is_only_added.false) (ap (λ rest. rest.items) w.rest-is)
]
