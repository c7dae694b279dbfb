-- The wanted adds and the kept steps are there: nothing stands for a place past an end.
use Rattle.std.specs.Prelude.{◌≡◌, ◌-◌, ◌≤◌, ℕ, Some, List, length, slice_get, slice_index_or, All}
use Rattle.std.proofs.Common.{sym, ◌∙◌, arith}
use Rattle.px_base.specs.ListLaws.{All-each}
use Rattle.px_terms.specs.declared.problem.Problem.{Problem}
use Rattle.px_terms.specs.Validity.{IsValid}
use Rattle.px_proof.specs.PlaceLaws.{All-got, slice_get-map}
use Rattle.px_table.specs.declared.table.Table.{Table}
use Rattle.px_table.specs.Tables.{IsTable}
use Rattle.px_edit.specs.EditCauses.{IsEditable}
use Rattle.px_edit.specs.EditClaims.{AreThere, IsAddThere}
use Rattle.px_edit.specs.Editing.{AreKeptSteps, no_step}
use Rattle.px_edit.proofs.Alike.{step-in}
use Rattle.px_edit.proofs.KeptParts.{wanted-step, wanted-there, within}

pub parts-there : (problem : Problem) (table : Table) (prefix : ℕ) (wanted : List (ℕ × ℕ)) (kept : List ℕ) → IsValid problem
    → IsTable problem table → IsEditable problem table prefix wanted → AreKeptSteps table wanted kept → AreThere problem table wanted kept
parts-there problem table prefix wanted kept valid is may are = record {
  adds_are = All-each (IsAddThere problem table) wanted (λ pair has.
      let low = wanted-step problem valid table is prefix wanted may kept are pair has in
      record {
        inst = slice_index_or table.steps (pair.0 - 1) no_step;
        step = step-in table.steps pair.0 low.0 low.1;
        add = wanted-there problem valid table is prefix wanted may kept are pair has;
      });
  steps_are = λ place k at.
      let inside = All-got (λ k. (1 ≤ k) × (k ≤ length table.steps)) kept place k (within problem valid table is prefix wanted may kept are) at in
      slice_get-map (λ k. slice_index_or table.steps (k - 1) no_step) kept place k at ∙ sym (step-in table.steps k inside.0 inside.1);
}
