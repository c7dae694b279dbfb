use Rattle.std.specs.Prelude.{◌↔◌, ◌⊎◌, take, Contains}
use Rattle.px_prover.specs.declared.pattern.GapPattern.{GapPattern}
use Rattle.px_terms.specs.declared.atom.Atom.{Atom}
use Rattle.px_gaps.specs.Closings.{OneOf}
use Rattle.px_gaps.specs.Described.{IsMissingBy}
use Rattle.px_gaps.proofs.missing.insert_missing_by.Given as goal

abbrev pub invariant-loop-pattern : goal.invariant-loop-pattern
invariant-loop-pattern l =
    (q : Atom) → Contains l.found.atoms q
    ↔ (Contains l.initial.found.atoms q
    ⊎ OneOf (take l.pattern-index l.patterns) (λ (pattern : GapPattern). IsMissingBy l.limit l.provable.atoms pattern q))
