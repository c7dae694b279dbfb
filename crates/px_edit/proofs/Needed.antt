-- What is kept of a table: all that it rests on, and no more than the prefix; and it is one list.
use Rattle.std.specs.Prelude.{◌≡◌, ◌⊎◌, ◌<◌, ◌≤◌, ℕ, List, All, Contains}
use Rattle.std.proofs.Common.{refl, sym, subst, zero, suc, inl, inr, arith}
use Rattle.std.proofs.lemmas.Map.Keys.{sorted_from_strictly_increasing}
use Rattle.std.specs.Cmp.{nat_cmp_total}
use Rattle.std.specs.FinMap.{nat_cmp-IsAntisymmetric}
use Rattle.std.specs.Ordering.{nat_cmp}
use Rattle.px_base.specs.ListLaws.{All-at, All-each}
use Rattle.px_base.specs.SetLaws.{same_set}
use Rattle.px_terms.specs.declared.problem.Problem.{Problem}
use Rattle.px_table.specs.declared.mark.Mark.{Mark}
use Rattle.px_table.specs.declared.table.Table.{Table}
use Rattle.px_table.specs.Marks.{IsNamed}
use Rattle.px_table.specs.Tables.{IsTable}
use Rattle.px_edit.specs.Editing.{AreKeptSteps, IsNeededStep, asked, rested_on}
use Rattle.px_edit.specs.EditCauses.{IsAddOf, IsEditable}
use Rattle.px_edit.specs.EditClaims.{KeepsWanted, NothingIsMissed}

-- the rows of the kept steps rest on kept steps alone
module _ (table : Table) (wanted : List (ℕ × ℕ)) (kept : List ℕ) (are : AreKeptSteps table wanted kept) where
  column_kept : (mark : Mark) → Contains table.marks mark → Contains kept mark.row → (column : ℕ) → mark.column ≡ column
      → (mark.column ≡ 0) ⊎ Contains kept mark.column
  column_kept mark has row zero is = inl is
  column_kept mark has row (suc k) is =
      inr (subst (Contains kept) (sym is) ((are.needed (suc k)).1 (rested_on ((are.needed mark.row).0 row) mark has refl is (omega arith))))

  pub nothing_missed : NothingIsMissed table kept
  nothing_missed = All-each (λ (mark : Mark). Contains kept mark.row → (mark.column ≡ 0) ⊎ Contains kept mark.column) table.marks
      (λ mark has row. column_kept mark has row mark.column refl)

-- what is needed is of the prefix
module _ (problem : Problem) (table : Table) (prefix : ℕ) (wanted : List (ℕ × ℕ)) (is : IsTable problem table)
    (may : IsEditable problem table prefix wanted) where
  pub needed_within : {k : ℕ} → IsNeededStep table wanted k → (1 ≤ k) × (k ≤ prefix)
  needed_within (asked {k} index has) =
      let add = All-at (IsAddOf problem table prefix) wanted (k, index) may.adds_are has in (add.counted, add.within)
  needed_within (rested_on {k} {row} needed mark has row_is column_is least) =
      let before : mark.column < mark.row = (All-at (IsNamed problem table.steps) table.marks mark is.named has).earlier in
      let within = needed_within needed in
      (least, omega (arith, before, within.1, row_is, column_is))

  pub keeps_wanted : (kept : List ℕ) → AreKeptSteps table wanted kept → KeepsWanted wanted prefix kept
  keeps_wanted kept are = (
    All-each (λ (pair : ℕ × ℕ). Contains kept pair.0) wanted (λ pair has. (are.needed pair.0).1 (asked pair.1 has)),
    All-each (λ k. (1 ≤ k) × (k ≤ prefix)) kept (λ k has. needed_within ((are.needed k).0 has)),
  )

-- at most one list is kept
pub kept_is_one : (table : Table) (wanted : List (ℕ × ℕ)) (a b : List ℕ) → AreKeptSteps table wanted a → AreKeptSteps table wanted b → a ≡ b
kept_is_one table wanted a b one other =
    same_set nat_cmp nat_cmp_total nat_cmp-IsAntisymmetric a b (sorted_from_strictly_increasing a one.in_order)
    (sorted_from_strictly_increasing b other.in_order)
    (λ q. (λ h. (other.needed q).1 ((one.needed q).0 h), λ h. (one.needed q).1 ((other.needed q).0 h)))
