use Rattle.std.proofs.Common.{◌∙◌, ap}
use Rattle.px_diff.proofs.Reordering.{next-first, next-second}
use Rattle.px_diff.proofs.rest.narrow_first.Goals.{then-has_object+in_ok-push, else-has_object+in_ok-push-2}
use Rattle.px_diff.proofs.rest.narrow_first.Goals as goal

pub loop-atom-preserved : goal.loop-atom-preserved
loop-atom-preserved c = elim c.if-has_object.branch [
  | then-has_object+in_ok-push w ↦
      next-first c.args.atoms.now c.loop-atom.atom-index c.atom-item.result c.loop-atom.narrow.items c.loop-atom.wide.items
      c.loop-atom-test.true c.atom-item.is c.loop-atom.invariant c.if-has_object.narrow.items c.if-has_object.wide.items
      (ap (λ list. list.items) w.narrow-is ∙ w.in_ok-push.ensures.ok) (ap (λ list. list.items) w.wide-is)
  | else-has_object+in_ok-push-2 w ↦
      next-second c.args.atoms.now c.loop-atom.atom-index c.atom-item.result c.loop-atom.narrow.items c.loop-atom.wide.items
      c.loop-atom-test.true c.atom-item.is c.loop-atom.invariant c.if-has_object.narrow.items c.if-has_object.wide.items
      (ap (λ list. list.items) w.narrow-is) (ap (λ list. list.items) w.wide-is ∙ w.in_ok-push-2.ensures.ok)
]
