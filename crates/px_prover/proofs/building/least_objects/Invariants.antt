use Rattle.std.proofs.Common.{◌≡◌, ◌<◌, ◌≤◌, ℕ, length}
use Rattle.std.specs.Prelude.{slice_index}
use Rattle.px_prover.specs.Building.{IsLeastAt}
use Rattle.px_unify.specs.Changes.{variables_of}
use Rattle.px_prover.proofs.building.least_objects.Given as goal

abbrev pub invariant-loop-variable : goal.invariant-loop-variable
invariant-loop-variable l = record {
  long : length l.objects.items ≡ l.variable;
  within : l.variable ≤ variables_of l.bind;
  each : (v : ℕ) → v < length l.objects.items → IsLeastAt l.bind v (slice_index l.objects.items v);
}
