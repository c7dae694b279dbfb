use Rattle.std.specs.Prelude.{◌↔◌, ℕ, List, take, Contains}
use Rattle.px_prover.specs.declared.pattern.GapPattern.{GapPattern}
use Rattle.px_terms.specs.Sorts.{ObjectsFit}
use Rattle.px_gaps.specs.Closings.{OneOf}
use Rattle.px_gaps.specs.Described.{IsChosenBy}
use Rattle.px_gaps.proofs.choices.choices_of.Given as goal

abbrev pub invariant-loop-pattern : goal.invariant-loop-pattern
invariant-loop-pattern l =
    (objects : List ℕ) → Contains l.choices.items objects
    ↔ OneOf (take l.pattern-index l.patterns) (λ (pattern : GapPattern). IsChosenBy l.limit l.provable.atoms pattern objects
    × ObjectsFit l.sorting.object_sorts.now l.sorting.wanted.now objects)
