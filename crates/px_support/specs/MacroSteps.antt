-- What applying a MACROP does, step by step.
use Rattle.std.specs.Prelude.{◌≡◌, ◌+◌, ◌≤◌, ℕ, not, Some, List, [], ◌∷◌, ◌++◌, map, filter, take, slice_get}
use Rattle.std.specs.List.{AllZip}
use Rattle.px_base.specs.Bounds.{u32_max}
use Rattle.px_terms.specs.declared.atom.Atom.{Atom}
use Rattle.px_terms.specs.declared.instance.OpInst.{OpInst}
use Rattle.px_terms.specs.declared.problem.Problem.{Problem}
use Rattle.px_terms.specs.declared.term.Term.TheVariants.{Obj}
use Rattle.px_terms.specs.Operators.{deletes, result_of, results_of}
use Rattle.px_proof.specs.Derivation.{Derivation}
use Rattle.px_proof.specs.Substitution.{derivation_under}
use Rattle.px_table.specs.Kernels.{steps_under}
use Rattle.px_table.specs.Prefixes.{IsMacro}
use Rattle.px_table.specs.Tables.{IsTable, rows_of}
use Rattle.px_entries.specs.Entries.{row_needs}
use Rattle.px_gaps.specs.declared.question.Obligation.{Obligation}
use Rattle.px_ends.specs.Made.{IsGraft, MacroRows}
use Rattle.px_support.specs.declared.macros.Learned.{Learned}
use Rattle.px_support.specs.declared.macros.Within.{Within}
use Rattle.px_support.specs.declared.walk.Walk.{Walk}

-- the steps of the MACROP
abbrev pub steps_in : Learned → List OpInst
steps_in learned = take learned.prefix (steps_under learned.table.now learned.sigma.now)

-- they are the first steps of a table, which a search may take as one operator, and the columns rise within the range of numbers
pub record IsLearnedOf (problem : Problem) (learned : Learned) : Type 0 where
  pub table : IsTable problem learned.table.now
  pub is_macro : IsMacro problem learned.table.now learned.prefix learned.sigma.now
  pub terms : learned.terms.now ≡ map Obj learned.sigma.now
  pub room : learned.shift + learned.prefix ≤ u32_max

-- what the steps need, from this model
abbrev pub NeedsOfMacro : Problem → Learned → List Atom → (List Obligation → Type 0) → Type 0
NeedsOfMacro problem learned model P = P (row_needs problem learned.table.now learned.sigma.now model (steps_in learned))

-- the step at the place is taken: its row is the table's, put onto the facts that were left
pub record IsStepTaken (problem : Problem) (learned : Learned) (place : ℕ) (old new : Within) : Type 0 where
  pub inst : OpInst
  pub inst_at : slice_get (steps_under learned.table.now learned.sigma.now) place ≡ Some inst
  pub row : List Derivation
  pub row_at : slice_get (rows_of learned.table.now.proofs) place ≡ Some row
  pub first : List Derivation
  pub made : AllZip (IsGraft problem learned.shift old.walk.steps.items old.facts.atoms)
      (map (derivation_under (map Obj learned.sigma.now)) row) first
  pub rows : rows_of new.walk.rows.items ≡ rows_of old.walk.rows.items ++ first ∷ []
  pub steps : new.walk.steps.items ≡ old.walk.steps.items ++ inst ∷ []
  pub model : new.walk.model.atoms ≡ result_of problem old.walk.model.atoms inst
  pub facts : new.facts.atoms ≡ filter (λ atom. not (deletes problem inst atom)) old.facts.atoms
  pub stack : new.walk.stack.items ≡ old.walk.stack.items

-- all its steps are taken, and their rows are appended
pub record IsMacroApplied (problem : Problem) (learned : Learned) (old new : Walk) : Type 0 where
  pub model : new.model.atoms ≡ results_of problem old.model.atoms (steps_in learned)
  pub stack : new.stack.items ≡ old.stack.items
  pub steps : new.steps.items ≡ old.steps.items ++ steps_in learned
  pub first : List (List Derivation)
  pub made : MacroRows problem learned.sigma.now learned.shift old.steps.items old.model.atoms (rows_of learned.table.now.proofs)
      (steps_in learned) first
  pub rows : rows_of new.rows.items ≡ rows_of old.rows.items ++ first
