-- What a closing by a clause does to the bindings and to the state.
use Rattle.std.specs.Prelude.{◌≡◌, ℕ, ◌+◌, ◌-◌, ◌≤◌, Bool, true, false, List, [], ◌∷◌, ◌++◌, length, take, get_or}
use Rattle.px_proof.specs.Literals.{substitute_literal}
use Rattle.px_proof.specs.Proves.{parts_of}
use Rattle.px_proof.specs.declared.shape.Tick.{Tick}
use Rattle.px_terms.specs.declared.clause.Lit.{Lit}
use Rattle.px_terms.specs.declared.clause.Clause.{Clause}
use Rattle.px_unify.specs.declared.change.Change.{Change}
use Rattle.px_unify.specs.Changes.{HasSolutions, NarrowedBy, NoneFits, variables_of}
use Rattle.px_terms.specs.Substitution.{variables_from}
use Rattle.px_proof_state.specs.declared.open.OpenGoal.{OpenGoal}
use Rattle.px_proof_state.specs.Arena.{goals_at, path_at, AreOlder}
use Rattle.px_proof_state.specs.Matches.{MakesSame, choice_by}
use Rattle.px_proof_state.specs.Parts.{goals_under}
use Rattle.px_proof_state.specs.States.{ProofStateValue}

-- there are that many more variables, and what fits is what fitted and makes the literals equal; or nothing does both, and nothing changes
pub record MatchesFresh (old new : List Change) (count : ℕ) (goal lit : Lit) (found : Bool) : Type 0 where
  pub agree : found ≡ true → NarrowedBy old new (MakesSame goal lit)
  pub variables : found ≡ true → variables_of new ≡ variables_of old + count
  pub prefix : found ≡ true → take (length old) new ≡ old
  pub grown : found ≡ true → length old ≤ length new
  pub solvable : found ≡ true → HasSolutions new
  pub never : found ≡ false → NoneFits old (MakesSame goal lit)
  pub same : found ≡ false → new ≡ old

-- a literal for a place past the end
abbrev pub no_literal : Lit
no_literal = record { positive = false; atom = record { pred = 0; args = [] } }

-- the clause's literal at the place, with new variables
abbrev pub new_literal : ℕ → Clause → ℕ → Lit
new_literal variables clause place = substitute_literal (variables_from variables clause.variable_count) (get_or clause.lits place no_literal)

-- the first goal is closed by the clause; its parts come first, then the goals that followed
pub record ClosesByStep (old new : ProofStateValue) (tick : Tick) (goal : OpenGoal) (clause : Clause) (place : ℕ) (found : Bool) : Type 0
  where
    pub is_match : MatchesFresh old.changes new.changes clause.variable_count goal.lit (new_literal (variables_of old.changes) clause place) found
    pub chosen : found ≡ true → new.choices ≡ choice_by tick old ∷ old.choices
    pub grown : found ≡ true → (more : List OpenGoal) × (new.goals ≡ old.goals ++ more)
    pub older : found ≡ true → new.first ≤ length new.goals
    pub arena : found ≡ true → AreOlder old.goals → AreOlder new.goals
    pub opened : found ≡ true
        → goals_at new.goals new.first ≡
        goals_under (path_at old.goals old.first) (goal.budget - 1)
        (parts_of clause.lits (variables_from (variables_of old.changes) clause.variable_count) place) ++ goals_at old.goals goal.next
    pub unchanged : found ≡ false → new ≡ old
