use Rattle.std.specs.Prelude.{◌≡◌, map, take}
use Rattle.px_terms.specs.declared.term.Term.TheVariants.{Obj}
use Rattle.px_support.proofs.grafts.object_terms.Given as goal

abbrev pub invariant-loop-place : goal.invariant-loop-place
invariant-loop-place l = l.terms.items ≡ map Obj (take l.place l.sigma)
