use Rattle.std.proofs.Common.{◌≡◌, map, take}
use Rattle.px_terms.specs.Language.{substitute}
use Rattle.px_unify.specs.Changes.{NarrowedBy, Binds, HasSolutions}
use Rattle.px_unify.proofs.bind.unify.Given as goal

abbrev pub invariant-loop-i : goal.invariant-loop-i
invariant-loop-i l = record {
  narrowed : NarrowedBy l.fn.bind l.bind (λ sigma. map (substitute sigma) (take l.i l.xs) ≡ map (substitute sigma) (take l.i l.ys));
  grows : Binds l.fn.bind l.bind;
  solvable : HasSolutions l.bind;
}
