use Rattle.std.specs.Prelude.{◌↔◌, ◌⊎◌, take, Contains}
use Rattle.px_terms.specs.declared.atom.Atom.{Atom}
use Rattle.px_gaps.specs.Closings.{OneOf}
use Rattle.px_gaps.proofs.Describing.{IsReached}
use Rattle.px_gaps.proofs.missing.insert_missing.Given as goal

abbrev pub invariant-loop-target : goal.invariant-loop-target
invariant-loop-target l =
    (q : Atom) → Contains l.found.atoms q
    ↔ (Contains l.initial.found.atoms q
    ⊎ OneOf (take l.target-index l.atoms) (IsReached l.limit l.pattern.variable_count l.atoms l.provable.atoms q))
