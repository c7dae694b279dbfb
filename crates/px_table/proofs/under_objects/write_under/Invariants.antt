use Rattle.std.proofs.Common.{◌≡◌, ◌++◌, map, take, drop}
use Rattle.px_terms.specs.declared.term.Term.TheVariants.{Obj}
use Rattle.px_terms.specs.Language.{substitute}
use Rattle.px_table.proofs.under_objects.write_under.Given as goal

abbrev pub invariant-loop-i : goal.invariant-loop-i
invariant-loop-i l = l.into ≡ map (substitute (map Obj l.sigma)) (take l.i l.terms) ++ drop l.i l.initial.into
