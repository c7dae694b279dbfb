-- The limits of an edited table, by the one list of steps that is kept.
use Rattle.std.specs.Prelude.{◌≡◌, ◌↔◌, ◌⊎◌, ◌<◌, ◌≤◌, ◌+◌, ◌-◌, ℕ, Bool, List, [], length, map, slice_index_or, All, Any, Contains, IsTrue, Result, Ok, Err, IfOk}
use Rattle.std.proofs.Common.{refl, sym, ap, ◌∙◌, subst, inl, inr, arith}
use Rattle.px_base.specs.ListLaws.{All-each, All-at}
use Rattle.px_terms.specs.declared.problem.Problem.{Problem}
use Rattle.px_terms.specs.Validity.{IsValid}
use Rattle.px_proof.specs.Derivation.{height}
use Rattle.px_table.specs.declared.table.Table.{Table}
use Rattle.px_table.specs.Limits.{most_steps}
use Rattle.px_table.specs.Tables.{IsTable, rows_of}
use Rattle.px_edit.specs.declared.edit_err.EditErr.{EditErr}
use Rattle.px_edit.specs.Editing.{AreKeptSteps, IsEdited, kept_of}
use Rattle.px_edit.specs.EditCauses.{IsAddOf, IsBadPrefix, IsEditable, KeepsTooDeep, KeepsTooMany, most_kept_height}
use Rattle.px_edit.proofs.Needed.{kept_is_one}
use Rattle.px_edit.proofs.Sound.{edited-low, edited-steps}

module _ (table : Table) (wanted : List (ℕ × ℕ)) (kept : List ℕ) (are : AreKeptSteps table wanted kept) where
  pub many-by : KeepsTooMany table wanted → most_steps < length kept
  many-by many = subst (λ l. most_steps < length l) (kept_is_one table wanted many.0 kept many.1 are) many.2

  pub deep-by : KeepsTooDeep table wanted → Any (Any (λ d. most_kept_height < height d)) (kept_of [] kept (rows_of table.proofs))
  deep-by deep =
      subst (λ l. Any (Any (λ d. most_kept_height < height d)) (kept_of [] l (rows_of table.proofs)))
      (kept_is_one table wanted deep.0 kept deep.1 are) deep.2

  pub few-by : (problem : Problem) (prefix : ℕ) (edited : Table) → IsTable problem table → IsEditable problem table prefix wanted
      → length kept ≤ most_steps → IsEdited problem table wanted edited → length edited.steps ≤ most_steps
  few-by problem prefix edited is may few done =
      let same = kept_is_one table wanted done.kept kept done.are_kept are in
      omega (arith, few, ap length same, edited-steps problem table prefix wanted edited is may done)

  pub low-by : (problem : Problem) (edited : Table)
      → ¬ Any (Any (λ d. most_kept_height < height d)) (kept_of [] kept (rows_of table.proofs)) → IsEdited problem table wanted edited
      → ¬ Any (Any (λ d. most_kept_height < height d)) (rows_of edited.proofs)
  low-by problem edited low done =
      edited-low problem table wanted edited done
      (subst (λ l. ¬ Any (Any (λ d. most_kept_height < height d)) (kept_of [] l (rows_of table.proofs)))
      (sym (kept_is_one table wanted done.kept kept done.are_kept are)) low)

-- the prefix is there where it isn't bad
pub good-prefix : (table : Table) (prefix : ℕ) → ¬ IsBadPrefix table prefix → (1 ≤ prefix) × (prefix ≤ length table.steps)
good-prefix table prefix good = (
  elim (less_or_not 0 prefix) [ inl some ↦ omega (arith, some) | inr none ↦ absurd (good (inl (omega (arith, none)))) ],
  elim (less_or_not (length table.steps) prefix) [ inl past ↦ absurd (good (inr past)) | inr inside ↦ inside ],
)
  where
    less_or_not : (a b : ℕ) → (a < b) ⊎ (b ≤ a)
    less_or_not a b = grind arith

pub bad-prefix-not : (problem : Problem) (table : Table) (prefix : ℕ) (wanted : List (ℕ × ℕ)) → IsEditable problem table prefix wanted
    → ¬ IsBadPrefix table prefix
bad-prefix-not problem table prefix wanted may (inl none) = omega (arith, none, may.least)
bad-prefix-not problem table prefix wanted may (inr past) = omega (arith, past, may.most)

pub if_ok : {A E : Type 0} (P Q : A → Type 0) → ((a : A) → P a → Q a) → (r : Result A E) → IfOk r P → IfOk r Q
if_ok P Q f (Ok a) h = f a h
if_ok P Q f (Err e) h = tt
