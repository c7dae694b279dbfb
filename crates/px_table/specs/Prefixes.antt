-- Which first steps of a table, with objects for its parameters, a search may take as one operator, a MACROP (Fikes, Hart and Nilsson
-- 1972).
use Rattle.std.specs.Prelude.{◌≡◌, ◌⊎◌, ◌<◌, ◌≤◌, ℕ, List, length, take, slice_index, All, Any, Contains}
use Rattle.px_terms.specs.declared.instance.OpInst.{OpInst}
use Rattle.px_terms.specs.declared.problem.Problem.{Problem}
use Rattle.px_terms.specs.declared.term.Term.TheVariants.{Var}
use Rattle.px_terms.specs.Sorts.{IsWellSorted}
use Rattle.px_table.specs.declared.mark.Mark.{Mark}
use Rattle.px_table.specs.declared.table.Table.{Table}
use Rattle.px_table.specs.Kernels.{mark_under, steps_under}
use Rattle.px_table.specs.Marks.{IsKept}

-- the parameter occurs in the first steps or in the marks of their rows
abbrev pub IsUsed : Table → ℕ → ℕ → Type 0
IsUsed table prefix v =
    Any (λ (inst : OpInst). Contains inst.args (Var v)) (take prefix table.steps)
    ⊎ Any (λ (mark : Mark). (mark.row ≤ prefix) × Contains mark.atom.args (Var v)) table.marks

-- no step deletes the instance of a mark of the first rows whose column it comes after and whose row it comes before
abbrev pub IsProperPrefix : Problem → Table → ℕ → List ℕ → Type 0
IsProperPrefix problem table prefix sigma = All (λ mark. mark.row ≤ prefix
    → IsKept problem (steps_under table sigma) 1 (mark_under sigma mark)) table.marks

-- the number is the object of a parameter: one of the problem's where the first steps use the parameter, and 0 where they don't
abbrev pub IsAllowedNumber : Problem → Table → ℕ → ℕ → ℕ → Type 0
IsAllowedNumber problem table prefix v number = (IsUsed table prefix v → number < problem.objects) × (¬ IsUsed table prefix v → number ≡ 0)

-- Two or more of the table's first steps, with an object of the problem for each parameter that they use and object 0 for each
-- other one, where each of these steps fits and none deletes a mark of their rows that it stands between. An object need not fit the sort
-- that its parameter has in the table, if that comes from later steps alone.
pub record IsMacro (problem : Problem) (table : Table) (prefix : ℕ) (sigma : List ℕ) : Type 0 where
  pub several : 2 ≤ prefix
  pub within : prefix ≤ length table.steps
  pub count : length sigma ≡ table.params
  pub used : (v : ℕ) → v < table.params → IsUsed table prefix v → slice_index sigma v < problem.objects
  pub unused : (v : ℕ) → v < table.params → ¬ IsUsed table prefix v → slice_index sigma v ≡ 0
  pub kept : IsProperPrefix problem table prefix sigma
  pub fitting : All (IsWellSorted problem) (take prefix (steps_under table sigma))
