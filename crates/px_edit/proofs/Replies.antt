-- The clauses of an edit by what is refused and what is allowed.
use Rattle.std.specs.Prelude.{◌≡◌, ◌⊎◌, ◌<◌, ◌≤◌, ℕ, List, [], length, All, Any, Result, Ok, Err, IfOk, IfErr}
use Rattle.std.proofs.Common.{refl, sym, ap, subst, inl, inr, arith}
use Rattle.px_terms.specs.declared.problem.Problem.{Problem}
use Rattle.px_terms.specs.Validity.{IsValid}
use Rattle.px_base.specs.ListLaws.{All-each}
use Rattle.px_proof.specs.Derivation.{Derivation, height}
use Rattle.px_table.specs.declared.table.Table.{Table}
use Rattle.px_table.specs.KernelLaws.{kernels_carry}
use Rattle.px_table.specs.Kernels.{KernelsCarry}
use Rattle.px_table.specs.Limits.{most_steps}
use Rattle.px_table.specs.Tables.{IsTable, rows_of}
use Rattle.px_edit.specs.declared.edit_err.EditErr.{EditErr}
use Rattle.px_edit.specs.declared.edit_err.EditErr.TheVariants.{BadPrefix, BadWant, TooLong, TooDeep, NoMemory}
use Rattle.px_edit.specs.EditCauses.{IsEditable, KeepsTooDeep, KeepsTooMany, most_kept_height}
use Rattle.px_edit.specs.EditClaims.{EachStepServes}
use Rattle.px_edit.specs.Editing.{IsEdited, kept_of}
use Rattle.px_edit.specs.Refusals.{IsWithinLimits, Refuses}
use Rattle.px_edit.proofs.EditLimits.{few-by, low-by}
use Rattle.px_edit.proofs.Sound.{edited-serves, edited-table}

few_or_many : (n limit : ℕ) → (n ≤ limit) ⊎ (limit < n)
few_or_many n limit = grind arith

-- where none is high, each is low
lows : (rows : List (List Derivation)) → ¬ Any (Any (λ d. most_kept_height < height d)) rows
    → All (All (λ d. height d ≤ most_kept_height)) rows
lows rows low = All-each (All (λ d. height d ≤ most_kept_height)) rows (λ row has.
    All-each (λ d. height d ≤ most_kept_height) row (λ d there. elim (few_or_many (height d) most_kept_height) [
      | inl here ↦ here
      | inr high ↦ absurd (low (has.0, row, has.1, has.2, (there.0, d, there.1, there.2, high)))
    ]))

module _ (problem : Problem) (valid : IsValid problem) (table : Table) (is : IsTable problem table) (prefix : ℕ) (wanted : List (ℕ × ℕ))
    (may : IsEditable problem table prefix wanted) where
  -- of an edited table
  module _ (edited : Table) (done : IsEdited problem table wanted edited) where
    pub made-table : IsTable problem edited
    made-table = edited-table problem table prefix wanted edited is may done valid

    pub made-kernels : KernelsCarry problem edited
    made-kernels = kernels_carry problem edited made-table

    pub made-serves : EachStepServes edited
    made-serves = edited-serves problem table prefix wanted edited is may done valid

    pub made-few : IsWithinLimits table wanted → length edited.steps ≤ most_steps
    made-few limits = elim (few_or_many (length done.kept) most_steps) [
      | inl few ↦ few-by table wanted done.kept done.are_kept problem prefix edited is may few done
      | inr many ↦ absurd (limits.few (done.kept, done.are_kept, many))
    ]

    pub made-low : IsWithinLimits table wanted → ¬ Any (Any (λ d. most_kept_height < height d)) (rows_of edited.proofs)
    made-low limits =
        low-by table wanted done.kept done.are_kept problem edited (λ high. limits.low (done.kept, done.are_kept, high)) done

    pub made-lows : IsWithinLimits table wanted → All (All (λ d. height d ≤ most_kept_height)) (rows_of edited.proofs)
    made-lows limits = lows (rows_of edited.proofs) (made-low limits)

module _ (table : Table) (wanted : List (ℕ × ℕ)) where
  module _ (r : Result Table EditErr) (refused : IfErr r (Refuses table wanted)) where
    refused-by : (why : EditErr) → r ≡ Err why → Refuses table wanted why
    refused-by why is = subst (λ (x : Result Table EditErr). IfErr x (Refuses table wanted)) is refused

    pub no-bad_prefix : ¬ (r ≡ Err BadPrefix)
    no-bad_prefix is = refused-by BadPrefix is

    pub no-bad_want : (place : ℕ) → ¬ (r ≡ Err (BadWant place))
    no-bad_want place is = refused-by (BadWant place) is

    pub is-too_long : r ≡ Err TooLong → KeepsTooMany table wanted
    is-too_long is = refused-by TooLong is

    pub is-too_deep : r ≡ Err TooDeep → (¬ KeepsTooMany table wanted) × KeepsTooDeep table wanted
    is-too_deep is = refused-by TooDeep is

  pub always-too_long : (r : Result Table EditErr) → IfOk r (λ _. IsWithinLimits table wanted) → IfErr r (Refuses table wanted)
      → KeepsTooMany table wanted → (r ≡ Err TooLong) ⊎ (r ≡ Err NoMemory)
  always-too_long (Ok edited) allowed refused many = absurd (allowed.few many)
  always-too_long (Err BadPrefix) allowed refused many = absurd refused
  always-too_long (Err (BadWant place)) allowed refused many = absurd refused
  always-too_long (Err TooLong) allowed refused many = inl refl
  always-too_long (Err TooDeep) allowed refused many = absurd (refused.0 many)
  always-too_long (Err NoMemory) allowed refused many = inr refl

  pub always-too_deep : (r : Result Table EditErr) → IfOk r (λ _. IsWithinLimits table wanted) → IfErr r (Refuses table wanted)
      → ¬ KeepsTooMany table wanted → KeepsTooDeep table wanted → (r ≡ Err TooDeep) ⊎ (r ≡ Err NoMemory)
  always-too_deep (Ok edited) allowed refused few deep = absurd (allowed.low deep)
  always-too_deep (Err BadPrefix) allowed refused few deep = absurd refused
  always-too_deep (Err (BadWant place)) allowed refused few deep = absurd refused
  always-too_deep (Err TooLong) allowed refused few deep = absurd (few refused)
  always-too_deep (Err TooDeep) allowed refused few deep = inl refl
  always-too_deep (Err NoMemory) allowed refused few deep = inr refl

-- two facts of the same result
pub ok_both : {A E : Type 0} (P Q R : A → Type 0) → ((a : A) → P a → Q a → R a) → (r : Result A E) → IfOk r P → IfOk r Q → IfOk r R
ok_both P Q R f (Ok a) p q = f a p q
ok_both P Q R f (Err e) p q = tt
