use Rattle.std.specs.Prelude.{◌≡◌, ℕ}
use Rattle.px_terms.specs.declared.term.Term.TheVariants.{Var}
use Rattle.px_base.proofs.Loops.{AllBefore}
use Rattle.px_gaps.proofs.bindings.first_variable.Given as goal

abbrev pub invariant-loop-term : goal.invariant-loop-term
invariant-loop-term l = AllBefore (λ t. (v : ℕ) → ¬ (t ≡ Var v)) l.args l.term-index
