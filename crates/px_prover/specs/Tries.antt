-- What an attempt to go on to a longer list leaves.
use Rattle.std.specs.Prelude.{◌≡◌, ◌⊎◌, ℕ, ◌-◌, ◌<◌, ◌≤◌, Bool, true, false, Option, Some, List, [], ◌∷◌, ◌++◌, length, take, slice_get}
use Rattle.px_prover.specs.Asking.{setting_in}
use Rattle.px_prover.specs.Standing.{ticks_in, IsProperQuestion, IsSound}
use Rattle.px_prover.specs.declared.question.ProofQuestion.{ProofQuestion}
use Rattle.px_proof.specs.Shapes.{TickBefore}
use Rattle.px_proof.specs.declared.shape.Tick.{Tick}
use Rattle.px_question.specs.Settings.{Setting}
use Rattle.px_proof_state.specs.Matches.{choice_by}
use Rattle.px_proof_state.specs.States.{ProofStateValue}
use Rattle.px_proof_state.specs.declared.open.OpenGoal.{OpenGoal}
use Rattle.px_terms.specs.Limits.{most_shapes}
use Rattle.px_terms.specs.declared.atom.Atom.{Atom}
use Rattle.px_proof_walk.specs.Order.{IsAfter}
use Rattle.px_proof_walk.specs.Possible.{IsPossible}

-- the goal is the first open one of a sound state with room for one more tick
pub record IsReadyToTry (loose : Bool) (s : Setting) (formula : List Atom) (variable_count : ℕ) (ticks : List Tick) (old : ProofStateValue)
    (goal : OpenGoal) : Type 0 where
  pub asked : IsProperQuestion s formula variable_count
  pub sound : IsSound loose s formula variable_count ticks old
  pub some : 0 < old.first
  pub at : slice_get old.goals (old.first - 1) ≡ Some goal
  pub room : length ticks < most_shapes

-- the tick is the given one, or stands after it
abbrev pub IsSince : Tick → Tick → Type 0
IsSince start tick = (start ≡ tick) ⊎ TickBefore start tick

-- the new state is that after one more tick, and what was there before is kept
pub record IsLonger (loose : Bool) (s : Setting) (formula : List Atom) (variable_count : ℕ) (ticks : List Tick) (old : ProofStateValue) (tick : Tick)
    (new : ProofStateValue) : Type 0 where
  pub sound : IsSound loose s formula variable_count (ticks ++ tick ∷ []) new
  pub chosen : new.choices ≡ choice_by tick old ∷ old.choices
  pub changes : take (length old.changes) new.changes ≡ old.changes
  pub more_changes : length old.changes ≤ length new.changes
  pub goals : take (length old.goals) new.goals ≡ old.goals
  pub more_goals : length old.goals ≤ length new.goals

-- the new tick is the least of those that count by which the list is possible; or by none of these is it possible, and nothing changes
pub record TriesAmong (Counts : Tick → Type 0) (loose : Bool) (s : Setting) (formula : List Atom) (variable_count : ℕ) (ticks : List Tick)
    (old new : ProofStateValue) (found : Bool) : Type 0 where
  pub least : found ≡ true
      → (tick : Tick) × Counts tick × IsLonger loose s formula variable_count ticks old tick new
      × ((u : Tick) → Counts u → IsPossible loose s formula variable_count (ticks ++ u ∷ []) → IsSince tick u)
  pub no_more : found ≡ false → (new ≡ old) × ((u : Tick) → Counts u → ¬ IsPossible loose s formula variable_count (ticks ++ u ∷ []))

-- the goal is the first open one of a sound state of the question, with room for one more tick
abbrev pub IsReadyIn : ProofQuestion → ProofStateValue → OpenGoal → Type 0
IsReadyIn q old goal = IsReadyToTry q.loose (setting_in q) q.formula.now q.variable_count (ticks_in old.choices) old goal

abbrev pub TriesSince : ProofQuestion → Tick → ProofStateValue → ProofStateValue → Bool → Type 0
TriesSince q start old new found = TriesAmong (IsSince start) q.loose (setting_in q) q.formula.now q.variable_count (ticks_in old.choices) old new
    found

abbrev pub TriesLater : ProofQuestion → Option Tick → ProofStateValue → ProofStateValue → Bool → Type 0
TriesLater q last old new found = TriesAmong (IsAfter last) q.loose (setting_in q) q.formula.now q.variable_count (ticks_in old.choices) old new found
