use Rattle.std.proofs.Common.{◌≡◌, ◌<◌, ℕ, Some, length, get_or}
use Rattle.px_terms.specs.declared.term.Term.TheVariants.{Any}
use Rattle.px_entries.specs.Parameters.{merged_term}
use Rattle.px_entries.proofs.parameters.merged.Given as goal

abbrev pub invariant-loop-place : goal.invariant-loop-place
invariant-loop-place l = record {
  long : length l.next.items ≡ l.place;
  each : (v : ℕ) → v < l.place → merged_term l.limit (get_or l.terms v Any) (get_or l.others v Any) ≡ Some (get_or l.next.items v Any);
}
