-- Runs: the turns of an executor in a world that is disturbed.
use Rattle.std.specs.Prelude.{◌≡◌, ◌⊎◌, ℕ, Bool, true, false, ◌==◌, ◌&&◌, ◌+◌, ◌*◌, ◌≤◌, None, Option, List, [], ◌∷◌, length, filter, flat_map}
use Rattle.std.proofs.Common.{suc}
use mathlib.Core.Bool.{beq}
use Rattle.px_terms.specs.declared.atom.Atom.{Atom}
use Rattle.px_terms.specs.declared.instance.OpInst.{OpInst}
use Rattle.px_terms.specs.declared.problem.Problem.{Problem}
use Rattle.px_terms.specs.Validity.{IsValid}
use Rattle.px_table.specs.declared.table.Table.{Table}
use Rattle.px_table.specs.Tables.{IsTable}
use Rattle.px_planex.specs.Execution.{Happens, Memory, Running, nothing_sensed, remembered_step}
use Rattle.px_planex.specs.declared.event.Event.TheVariants.{Sense, Act}
use Rattle.px_planex.specs.declared.event.Outcome.{Outcome}
use Rattle.px_planex.specs.declared.event.Outcome.TheVariants.{Sensed, Acted, Slipped, Goal, NoKernel}

-- edits for a turn: before its sensing, or between that and its action
pub record Recorded (E : Type 0) : Type 0 where
  pub turn : ℕ
  pub between : Bool
  pub edits : List E

-- the edits are for that turn and point
abbrev pub is_at : {E : Type 0} → ℕ → Bool → Recorded E → Bool
is_at turn between recorded = (recorded.turn == turn) && beq recorded.between between

-- the edits for that turn and point, in their order
abbrev pub edits_at : {E : Type 0} → List (Recorded E) → ℕ → Bool → List E
edits_at {E} recorded turn between = flat_map (λ (r : Recorded E). r.edits) (filter (is_at turn between) recorded)

-- the atoms that the edits leave, one after the other
abbrev pub after_edits : {E : Type 0} → (E → List Atom → List Atom) → List E → List Atom → List Atom
after_edits leaves [] atoms = atoms
after_edits leaves (edit ∷ edits) atoms = after_edits leaves edits (leaves edit atoms)

-- what the edits leave where an executor runs, one after the other
abbrev pub disturbed_by : {E : Type 0} → (E → List Atom → List Atom) → List E → Running → Running
disturbed_by leaves edits old = record { atoms = after_edits leaves edits old.atoms; memory = old.memory }

-- how a turn ends
pub data TurnEnd : Type 0 where
  AtGoal AtNoKernel ByActing BySlipping : TurnEnd

-- the kernel, or 0 for no kernel; the step that was tried, if one was; how the turn ended
pub record TurnValue : Type 0 where
  pub kernel : ℕ
  pub op : Option OpInst
  pub end : TurnEnd

-- a turn with this end is the last one of its run
abbrev pub IsLastTurn : TurnEnd → Type 0
IsLastTurn AtGoal = Unit {0}
IsLastTurn AtNoKernel = Unit {0}
IsLastTurn ByActing = ⊥
IsLastTurn BySlipping = ⊥

-- an executor of the table with this binding, in a world in which an edit leaves these atoms
module _ {E : Type 0} (leaves : E → List Atom → List Atom) (problem : Problem) (table : Table) (bound : List (ℕ × ℕ)) where
  -- what is left of the turn where its sensing had this outcome: nothing, or the edits that come between and the action
  abbrev pub EndsTurn : List E → Running → Outcome → TurnValue → Running → Type 0
  EndsTurn between sensed NoKernel turn new = (turn ≡ record { kernel = 0; op = None; end = AtNoKernel }) × (new ≡ sensed)
  EndsTurn between sensed Goal turn new = (turn ≡ record { kernel = length table.steps + 1; op = None; end = AtGoal }) × (new ≡ sensed)
  EndsTurn between sensed (Sensed i) turn new =
      ((turn ≡ record { kernel = i; op = remembered_step table sensed.memory; end = ByActing })
      × Happens leaves problem table bound (disturbed_by leaves between sensed) Act Acted new)
      ⊎ ((turn ≡ record { kernel = i; op = remembered_step table sensed.memory; end = BySlipping })
      × Happens leaves problem table bound (disturbed_by leaves between sensed) Act Slipped new)
  EndsTurn between sensed outcome turn new = ⊥

  -- the turn, with the edits that come before its sensing and those that come between that and its action
  abbrev pub TakesTurn : List E → List E → Running → TurnValue → Running → Type 0
  TakesTurn before between old turn new =
      (outcome : Outcome) × ((sensed : Running) × Happens leaves problem table bound (disturbed_by leaves before old) Sense outcome sensed
      × EndsTurn between sensed outcome turn new)

  module _ (recorded : List (Recorded E)) where
    -- the turns from that number on, up to the first that ends the run
    abbrev pub TakesTurns : ℕ → Running → List TurnValue → Running → Type 0
    TakesTurns number old [] new = ⊥
    TakesTurns number old (turn ∷ turns) new =
        (mid : Running) × TakesTurn (edits_at recorded number false) (edits_at recorded number true) old turn mid
        × ((IsLastTurn turn.end × (turns ≡ []) × (new ≡ mid)) ⊎ ((¬ IsLastTurn turn.end) × TakesTurns (suc number) mid turns new))

    -- a run in a world of these atoms, disturbed as recorded: its turns, from 1 on, and the atoms after it
    abbrev pub RunsTable : List Atom → List TurnValue → List Atom → Type 0
    RunsTable atoms turns after =
        (memory : Memory) × TakesTurns 1 (record { atoms = atoms; memory = nothing_sensed }) turns
        (record { atoms = after; memory = memory })

-- a run with D recorded disturbances of a table of n steps has at most (D + 1) * (n + 1) turns
abbrev pub TurnsAreFew : {E : Type 0} → (E → List Atom → List Atom) → Type 0
TurnsAreFew {E} leaves = (problem : Problem) (table : Table) (bound : List (ℕ × ℕ)) (recorded : List (Recorded E))
    (atoms : List Atom) (turns : List TurnValue) (after : List Atom)
    → IsValid problem → IsTable problem table → RunsTable leaves problem table bound recorded atoms turns after
    → length turns ≤ (length recorded + 1) * (length table.steps + 1)

-- a run is determined
abbrev pub RunsAreOne : {E : Type 0} → (E → List Atom → List Atom) → Type 0
RunsAreOne {E} leaves = (problem : Problem) (table : Table) (bound : List (ℕ × ℕ)) (recorded : List (Recorded E))
    (atoms : List Atom) (turns others : List TurnValue) (after later : List Atom)
    → RunsTable leaves problem table bound recorded atoms turns after → RunsTable leaves problem table bound recorded atoms others later
    → (turns ≡ others) × (after ≡ later)
