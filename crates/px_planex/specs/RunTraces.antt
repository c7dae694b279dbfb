-- Runs by their events.
use Rattle.std.specs.Prelude.{ℕ, true, false, List, [], ◌∷◌, ◌++◌, map}
use Rattle.std.proofs.Common.{suc}
use Rattle.px_terms.specs.declared.atom.Atom.{Atom}
use Rattle.px_terms.specs.declared.problem.Problem.{Problem}
use Rattle.px_table.specs.declared.table.Table.{Table}
use Rattle.px_planex.specs.Execution.{Memory, Traces, nothing_sensed}
use Rattle.px_planex.specs.Turns.{AtGoal, AtNoKernel, ByActing, BySlipping, Recorded, RunsTable, TurnEnd, TurnValue, edits_at}
use Rattle.px_planex.specs.declared.event.Event.{Event}
use Rattle.px_planex.specs.declared.event.Event.TheVariants.{Disturb, Sense, Act}
use Rattle.px_planex.specs.declared.event.Outcome.{Outcome}
use Rattle.px_planex.specs.declared.event.Outcome.TheVariants.{Disturbed, Sensed, Acted, Slipped, Goal, NoKernel}

-- the edits for the turn and point as events, and what comes of each
abbrev pub disturbing : {E : Type 0} → List E → List (Event E)
disturbing {E} edits = map (λ (edit : E). Disturb edit) edits

abbrev pub all_disturbed : {E : Type 0} → List E → List Outcome
all_disturbed {E} edits = map (λ (edit : E). Disturbed) edits

module _ {E : Type 0} (recorded : List (Recorded E)) where
  -- the turn's events: the edits before, the sensing, and unless this ends the run, the edits between and the action
  abbrev pub turn_events : ℕ → TurnEnd → List (Event E)
  turn_events number AtGoal = disturbing (edits_at recorded number false) ++ Sense ∷ []
  turn_events number AtNoKernel = disturbing (edits_at recorded number false) ++ Sense ∷ []
  turn_events number ByActing = disturbing (edits_at recorded number false) ++ Sense ∷
      (disturbing (edits_at recorded number true) ++ Act ∷ [])
  turn_events number BySlipping = disturbing (edits_at recorded number false) ++ Sense ∷
      (disturbing (edits_at recorded number true) ++ Act ∷ [])

  -- and the outcomes of these events, where the turn had this kernel
  abbrev pub turn_outcomes : ℕ → ℕ → TurnEnd → List Outcome
  turn_outcomes number kernel AtGoal = all_disturbed (edits_at recorded number false) ++ Goal ∷ []
  turn_outcomes number kernel AtNoKernel = all_disturbed (edits_at recorded number false) ++ NoKernel ∷ []
  turn_outcomes number kernel ByActing =
      all_disturbed (edits_at recorded number false) ++ Sensed kernel ∷ (all_disturbed (edits_at recorded number true) ++ Acted ∷ [])
  turn_outcomes number kernel BySlipping =
      all_disturbed (edits_at recorded number false) ++ Sensed kernel ∷ (all_disturbed (edits_at recorded number true) ++ Slipped ∷ [])

  -- the events of the turns from that number on
  abbrev pub run_events : ℕ → List TurnValue → List (Event E)
  run_events number [] = []
  run_events number (turn ∷ turns) = turn_events number turn.end ++ run_events (suc number) turns

  abbrev pub run_outcomes : ℕ → List TurnValue → List Outcome
  run_outcomes number [] = []
  run_outcomes number (turn ∷ turns) = turn_outcomes number turn.kernel turn.end ++ run_outcomes (suc number) turns

-- a run is a trace of its events
abbrev pub RunsAreTraces : {E : Type 0} → (E → List Atom → List Atom) → Type 0
RunsAreTraces {E} leaves = (problem : Problem) (table : Table) (bound : List (ℕ × ℕ)) (recorded : List (Recorded E))
    (atoms : List Atom) (turns : List TurnValue) (after : List Atom)
    → RunsTable leaves problem table bound recorded atoms turns after
    → (memory : Memory) × Traces leaves problem table bound (record { atoms = atoms; memory = nothing_sensed })
    (run_events recorded 1 turns) (run_outcomes recorded 1 turns) (record { atoms = after; memory = memory })
