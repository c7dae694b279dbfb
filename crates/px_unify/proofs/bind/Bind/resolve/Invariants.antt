use Rattle.std.proofs.Common.{◌≡◌, List, length}
use Rattle.px_terms.specs.declared.term.Term.{Term}
use Rattle.px_terms.specs.Language.{IsPlainBelow, substitute}
use Rattle.px_unify.specs.Changes.{Fits}
use Rattle.px_unify.proofs.Slots.{rank}
use Rattle.px_unify.proofs.bind.Bind.resolve.Given as goal

abbrev pub invariant-loop-at : goal.invariant-loop-at
invariant-loop-at l = record {
  below : IsPlainBelow (length l.self-inside.slots.items) l.at;
  same : (sigma : List Term) → Fits sigma l.self-inside.changes.items → substitute sigma l.fn.term ≡ substitute sigma l.at;
}

abbrev pub decreases-loop-at : goal.decreases-loop-at
decreases-loop-at l = rank l.at
