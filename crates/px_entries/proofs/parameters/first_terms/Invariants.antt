use Rattle.std.specs.Prelude.{◌≡◌, ℕ, Some, length, slice_get}
use Rattle.px_terms.specs.declared.term.Term.{Term}
use Rattle.px_entries.specs.Parameters.{IsFirstTerm}
use Rattle.px_entries.proofs.parameters.first_terms.Given as goal

abbrev pub invariant-loop-parameter : goal.invariant-loop-parameter
invariant-loop-parameter l = record {
  count : length l.terms.items ≡ l.parameter;
  each : (v : ℕ) (t : Term) → slice_get l.terms.items v ≡ Some t → IsFirstTerm l.table l.prefix v t;
}
