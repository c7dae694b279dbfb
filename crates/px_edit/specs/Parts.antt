-- The parts of an edited table over the old parameters.
use Rattle.std.specs.Prelude.{◌≡◌, ◌≤◌, ℕ, Bool, true, false, List, length, count_by, All}
use Rattle.px_terms.specs.declared.term.Term.{Term}
use Rattle.px_terms.specs.declared.term.Term.TheVariants.{Obj, Var, Any as WildCard}
use Rattle.px_table.specs.declared.table.Table.{Table}
use Rattle.px_edit.specs.Editing.{names_by, parameters_in}

-- each number is that of one of the table's steps
abbrev pub AreNumbersOf : Table → List ℕ → Type 0
AreNumbersOf table kept = All (λ k. (1 ≤ k) × (k ≤ length table.steps)) kept

-- the names of that many parameters by the terms that were walked, and the number that the next one gets
pub record AreNamesAlong (params : ℕ) (walked names : List Term) (next : ℕ) : Type 0 where
  pub names_are : names ≡ names_by params (parameters_in params walked)
  pub count : next ≡ length (parameters_in params walked)

abbrev pub is_wild_card : Term → Bool
is_wild_card (Obj n) = false
is_wild_card (Var v) = false
is_wild_card WildCard = true

-- how many parameters have no name yet
abbrev pub unnamed : List Term → ℕ
unnamed names = count_by is_wild_card names
