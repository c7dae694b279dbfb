use Rattle.std.proofs.Common.{◌≡◌, drop}
use Rattle.std.specs.Cmp.Lexicographic.{pointwise}
use Rattle.px_terms.specs.Order.{term_eq}
use Rattle.px_match.proofs.keeping.are_same.Given as goal

abbrev pub invariant-loop-at : goal.invariant-loop-at
invariant-loop-at l = pointwise term_eq l.terms l.found ≡ pointwise term_eq (drop l.at l.terms) (drop l.at l.found)
