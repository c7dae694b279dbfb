-- Which objects make first steps a MACROP, by the terms that their parameters have first.
use Rattle.std.proofs.Common.{◌≡◌, ◌∙◌, ◌<◌, ℕ, sym, inl, inr}
use Rattle.std.specs.Prelude.{◌↔◌}
use Rattle.px_table.specs.declared.table.Table.{Table}
use Rattle.px_table.specs.Prefixes.{IsAllowedNumber}
use Rattle.px_terms.specs.declared.problem.Problem.{Problem}
use Rattle.px_terms.specs.declared.term.Term.TheVariants.{Obj, Var, Any as Wild}
use Rattle.px_entries.specs.Parameters.{IsFirstTerm}

module _ (problem : Problem) (table : Table) (prefix v number : ℕ) where
  abbrev Allowed : Type 0
  Allowed = IsAllowedNumber problem table prefix v number

  pub object-allowed : (n : ℕ) → IsFirstTerm table prefix v (Obj n) → (number ≡ n) ↔ Allowed
  object-allowed n first = elim first [
    | inl used ↦ absurd (let e = used.1 in cc)
    | inr other ↦
        let zero_is : n ≡ 0 = let e = other.1 in cc in
        (λ e. (λ used. absurd (other.0 used), λ unused. e ∙ zero_is), λ allowed. allowed.1 other.0 ∙ sym zero_is)
  ]

  pub variable-allowed : (w : ℕ) → IsFirstTerm table prefix v (Var w) → (number < problem.objects) ↔ Allowed
  variable-allowed w first = elim first [
    | inl used ↦ (λ less. (λ _. less, λ unused. absurd (unused used.0)), λ allowed. allowed.0 used.0)
    | inr other ↦ absurd (let e = other.1 in cc)
  ]

  pub wild-never : ¬ IsFirstTerm table prefix v Wild
  wild-never first = elim first [ inl used ↦ let e = used.1 in cc | inr other ↦ let e = other.1 in cc ]
