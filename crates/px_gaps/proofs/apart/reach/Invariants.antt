use Rattle.std.specs.Prelude.{◌↔◌, ◌⊎◌, ℕ, take, Contains}
use Rattle.px_terms.specs.declared.term.Term.TheVariants.{Var}
use Rattle.px_gaps.proofs.apart.reach.Given as goal

abbrev pub invariant-loop-term : goal.invariant-loop-term
invariant-loop-term l =
    (v : ℕ) → Contains l.reached.items v ↔ (Contains l.initial.reached.items v ⊎ Contains (take l.term-index l.args) (Var v))
