use Rattle.std.proofs.Common.{◌≡◌, ◌≤◌, ℕ, Some, length, slice_get}
use Rattle.px_terms.specs.declared.term.Term.{Term}
use Rattle.px_unify.specs.Changes.{variables_of}
use Rattle.px_prover.specs.Gathering.{IsRootOf}
use Rattle.px_prover.proofs.gathering.roots_of.Given as goal

abbrev pub invariant-loop-variable : goal.invariant-loop-variable
invariant-loop-variable l = record {
  long : length l.roots.items ≡ l.variable;
  within : l.variable ≤ variables_of l.bind;
  each : (v : ℕ) (root : Term) → slice_get l.roots.items v ≡ Some root → IsRootOf l.bind v root;
}
