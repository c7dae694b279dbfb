-- Attempts at the axioms, each from a place on.
use Rattle.std.specs.Prelude.{◌≡◌, ◌≢◌, ◌⊎◌, ℕ, ◌+◌, ◌<◌, ◌≤◌, Bool, true, Some, List, length, slice_get}
use Rattle.px_terms.specs.Clauses.{ArePlainBelow}
use Rattle.px_terms.specs.Limits.{most_formula_variables}
use Rattle.px_unify.specs.declared.change.TheConstants.{MOST_VARIABLES}
use Rattle.px_terms.specs.declared.clause.Clause.{Clause}
use Rattle.px_terms.specs.declared.clause.Lit.{Lit}
use Rattle.px_proof_state.specs.declared.open.OpenGoal.{OpenGoal}
use Rattle.px_proof_state.specs.Places.{NeverStep, ComesStep}
use Rattle.px_proof_state.specs.Ranges.{TriesRange}
use Rattle.px_proof_state.specs.States.{ProofStateValue}

-- what an attempt at the clause needs: room for its variables, and literals over these
pub record IsFit (variables : ℕ) (clause : Clause) : Type 0 where
  pub few : clause.variable_count ≤ most_formula_variables
  pub small : variables + clause.variable_count ≤ MOST_VARIABLES
  pub plain : ArePlainBelow clause.variable_count clause.lits

-- the parts of a step with these literals have a height
abbrev pub HasBudget : OpenGoal → List Lit → Type 0
HasBudget goal lits = (length lits ≤ 1) ⊎ (2 ≤ goal.budget)

-- the place to begin with: the given one at the first axiom, and 0 at the others
pub record IsFrom (number from place start : ℕ) : Type 0 where
  pub here : number ≡ from → start ≡ place
  pub later : number ≢ from → start ≡ 0

abbrev pub NeverClause : Clause → ProofStateValue → OpenGoal → ℕ → Type 0
NeverClause clause old goal place = HasBudget goal clause.lits → NeverStep clause old goal place

abbrev pub ComesClause : ℕ → Clause → ProofStateValue → OpenGoal → ℕ → ProofStateValue → Type 0
ComesClause number clause old goal place new = HasBudget goal clause.lits × ComesStep number clause old goal place new

abbrev pub TriesClause : ℕ → Clause → OpenGoal → ℕ → ProofStateValue → ProofStateValue → Bool → Type 0
TriesClause number clause goal from old new found = TriesRange (NeverClause clause old goal) (ComesClause number clause old goal) from
    (length clause.lits) old new found

-- no literal of the axiom from its first place on is ever equal to the goal
abbrev pub NeverAxiom : List Clause → ProofStateValue → OpenGoal → ℕ → ℕ → ℕ → Type 0
NeverAxiom axioms old goal from place number =
    (clause : Clause) → slice_get axioms number ≡ Some clause → (start : ℕ) → IsFrom number from place start → (p : ℕ) → start ≤ p
    → p < length clause.lits → NeverClause clause old goal p

-- a literal of the axiom closes the goal, and none before it from its first place on is ever equal to it
abbrev pub ComesAxiom : List Clause → ProofStateValue → OpenGoal → ℕ → ℕ → ℕ → ProofStateValue → Type 0
ComesAxiom axioms old goal from place number new =
    (clause : Clause) × (slice_get axioms number ≡ Some clause)
    × ((start : ℕ) × IsFrom number from place start × TriesClause number clause goal start old new true)
