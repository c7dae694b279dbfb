use Rattle.std.specs.Prelude.{◌↔◌, ◌⊎◌, ℕ, List, map, Contains}
use Rattle.px_prover.specs.Patterns.{object_under}
use Rattle.px_terms.specs.Sorts.{ObjectsFit}
use Rattle.px_gaps.specs.Bindings.{IsOpenBefore, open_term_count}
use Rattle.px_gaps.proofs.choices.+push_open.Given as goal

abbrev pub decreases-push_open : goal.decreases-push_open
decreases-push_open l = open_term_count l.terms.now

abbrev pub invariant-loop-object : goal.invariant-loop-object
invariant-loop-object l =
    (objects : List ℕ) → Contains l.found.items objects
    ↔ (Contains l.initial.found.items objects
    ⊎ (IsOpenBefore l.avoidance.limit l.terms l.avoidance.atoms.now l.avoidance.set.now.atoms
    (λ values. map (object_under values) l.targets) l.variable l.object objects
    × ObjectsFit l.sorting.object_sorts.now l.sorting.wanted.now objects))
