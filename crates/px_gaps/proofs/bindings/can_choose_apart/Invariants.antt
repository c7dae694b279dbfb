use Rattle.std.specs.Prelude.{length, Contains}
use Rattle.px_terms.specs.declared.atom.Atom.{Atom}
use Rattle.px_gaps.specs.Bindings.{ArePlain, CanAvoid}
use Rattle.px_gaps.proofs.bindings.can_choose_apart.Given as goal

abbrev pub decreases-loop-place : goal.decreases-loop-place
decreases-loop-place l = length l.rest.items

abbrev pub invariant-loop-place : goal.invariant-loop-place
invariant-loop-place l = record {
  among : (atom : Atom) → Contains l.rest.items atom → Contains l.avoidance.atoms.now atom;
  plain : ArePlain (length l.terms) l.rest.items;
  enough : CanAvoid l.avoidance.limit l.terms l.rest.items l.avoidance.set.now.atoms
      → CanAvoid l.avoidance.limit l.terms l.avoidance.atoms.now l.avoidance.set.now.atoms;
}
