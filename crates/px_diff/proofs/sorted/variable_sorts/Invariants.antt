use Rattle.std.proofs.Common.{◌≡◌, ◌<◌, ℕ, List, length}
use Rattle.std.specs.Prelude.{slice_index}
use Rattle.px_terms.specs.Sorts.{FitsSort, IsWellSorted}
use Rattle.px_diff.specs.Gathering.{AreObjectsFor, instance_by}
use Rattle.px_diff.proofs.sorted.variable_sorts.Given as goal

abbrev pub invariant-loop-variable : goal.invariant-loop-variable
invariant-loop-variable l = record {
  long : length l.sorts ≡ 8;
  fits :
      (objects : List ℕ) → AreObjectsFor l.problem l.partial objects → IsWellSorted l.problem (instance_by l.partial objects) → (k : ℕ)
      → k < l.variable → FitsSort l.problem.object_sorts (slice_index l.sorts k) (slice_index objects k);
}
