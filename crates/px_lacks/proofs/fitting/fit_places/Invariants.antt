-- What the loop of `fit_places` in src/fitting.rt keeps true.
use Rattle.std.proofs.Common.{◌≡◌, drop}
use Rattle.std.specs.Cmp.Lexicographic.{pointwise}
use Rattle.px_ends.specs.Lacks.{fits_place}
use Rattle.px_lacks.proofs.fitting.fit_places.Given as goal

abbrev pub invariant-loop-i : goal.invariant-loop-i
invariant-loop-i l = pointwise fits_place l.pattern l.terms ≡ pointwise fits_place (drop l.i l.pattern) (drop l.i l.terms)
