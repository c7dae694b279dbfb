-- Two executors, of which the one's steps spare what the other's kernels rest on.
use Rattle.std.specs.Prelude.{◌≡◌, ℕ, Bool, true, false, ◌≤◌, ◌+◌, ◌-◌, List, [], ◌∷◌, ◌++◌, length, All, Contains}
use Rattle.px_terms.specs.declared.atom.Atom.{Atom}
use Rattle.px_terms.specs.declared.instance.OpInst.{OpInst}
use Rattle.px_terms.specs.declared.problem.Problem.{Problem}
use Rattle.px_terms.specs.Operators.{IsDeleted, adds, schema_of}
use Rattle.px_terms.specs.Validity.{IsValid}
use Rattle.px_table.specs.declared.mark.Mark.{Mark}
use Rattle.px_table.specs.declared.table.Table.{Table}
use Rattle.px_table.specs.Kernels.{IsInstantiation, atom_under, steps_under}
use Rattle.px_table.specs.Tables.{IsTable}
use Rattle.px_table.specs.WellSorted.{ParametersFit}
use Rattle.px_planex.specs.Progress.{ClimbsToGoal, alternating}
use Rattle.px_planex.specs.declared.event.Event.{Event}
use Rattle.px_planex.specs.declared.event.Event.TheVariants.{Sense, Act}
use Rattle.px_planex.specs.declared.event.Outcome.{Outcome}
use Rattle.px_planex.specs.declared.event.Outcome.TheVariants.{Sensed, Acted, Goal, NotSensed}
use Rattle.px_duo.specs.Alone.{if_own}
use Rattle.px_duo.specs.Duos.{DuoRunning, DuoTraces, HappensInDuo, IsReady, Pair, other_than, own}
use Rattle.px_duo.specs.declared.event.DuoEvent.{DuoEvent}
use Rattle.px_duo.specs.declared.event.DuoEvent.TheVariants as duo
use Rattle.px_duo.specs.declared.event.Who.{Who}

-- ---- what is spared

-- an object of the problem for each parameter, which fits it
pub record AreObjectsOf (problem : Problem) (table : Table) (objects : List ℕ) : Type 0 where
  pub instantiation : IsInstantiation problem table objects
  pub fitting : ParametersFit problem.object_sorts table objects

-- No step of the one table, with any objects that fit, takes away a mark of the other, with any objects that fit: what it deletes of these, it
-- adds again.
abbrev pub Spares : Problem → Table → Table → Type 0
Spares problem acting resting = (objects others : List ℕ) (inst : OpInst) (mark : Mark)
    → AreObjectsOf problem acting objects → AreObjectsOf problem resting others
    → Contains (steps_under acting objects) inst → Contains resting.marks mark
    → IsDeleted (schema_of problem inst) inst (atom_under others mark.atom) → Contains (adds problem inst) (atom_under others mark.atom)

-- no edit
abbrev pub IsNoEdit : {E : Type 0} → DuoEvent E → Type 0
IsNoEdit (duo.Disturb edit) = ⊥
IsNoEdit (duo.Sense who) = Unit {0}
IsNoEdit (duo.Act who) = Unit {0}

-- ---- the one's own sensings and actions, and what came of them

abbrev pub own_event : {E : Type 0} → Who → DuoEvent E → List (Event E)
own_event who (duo.Disturb edit) = []
own_event who (duo.Sense by) = if_own who by (Sense ∷ []) []
own_event who (duo.Act by) = if_own who by (Act ∷ []) []

abbrev pub own_outcome : {E : Type 0} → Who → DuoEvent E → Outcome → List Outcome
own_outcome who (duo.Disturb edit) outcome = []
own_outcome who (duo.Sense by) outcome = if_own who by (outcome ∷ []) []
own_outcome who (duo.Act by) outcome = if_own who by (outcome ∷ []) []

abbrev pub own_events : {E : Type 0} → Who → List (DuoEvent E) → List (Event E)
own_events who [] = []
own_events who (event ∷ events) = own_event who event ++ own_events who events

abbrev pub own_outcomes : {E : Type 0} → Who → List (DuoEvent E) → List Outcome → List Outcome
own_outcomes who [] outcomes = []
own_outcomes who (event ∷ events) [] = []
own_outcomes who (event ∷ events) (outcome ∷ outcomes) = own_outcome who event outcome ++ own_outcomes who events outcomes

-- ---- what comes of it

-- Of a table of `n` steps, where the next sensing finds kernel `least` or a greater one, and it is known whether a step is remembered: each
-- sensing finds such a kernel. An action is taken where a step is remembered, and raises the least kernel by one. Once the goal is sensed it
-- stays.
abbrev pub IsUnhindered : {E : Type 0} → ℕ → Bool → ℕ → List (Event E) → List Outcome → Type 0
IsUnhindered n remembers least [] [] = Unit {0}
IsUnhindered n remembers least (Sense ∷ events) (Goal ∷ outcomes) = IsUnhindered n false (n + 1) events outcomes
IsUnhindered n remembers least (Sense ∷ events) (Sensed j ∷ outcomes) = (least ≤ j) × (j ≤ n) × IsUnhindered n true j events outcomes
IsUnhindered n remembers least (Act ∷ events) (Acted ∷ outcomes) = (remembers ≡ true) × IsUnhindered n false (least + 1) events outcomes
IsUnhindered n remembers least (Act ∷ events) (NotSensed ∷ outcomes) = (remembers ≡ false) × IsUnhindered n false least events outcomes
IsUnhindered n remembers least events outcomes = ⊥

-- Where the other's steps spare the one's marks and no edit comes, the one is never hindered after it has sensed kernel `i`, whatever its own
-- events are and however the other's fall between them: none of its actions slips, and each of its sensings finds a kernel.
abbrev pub SparedAreUnhindered : {E : Type 0} → (E → List Atom → List Atom) → Type 0
SparedAreUnhindered {E} leaves = (problem : Problem) (tables : Pair Table) (who : Who) (old sensed new : DuoRunning) (i : ℕ)
    (events : List (DuoEvent E)) (outcomes : List Outcome)
    → IsValid problem → ((by : Who) → IsTable problem (own by tables))
    → Spares problem (own (other_than who) tables) (own who tables)
    → IsReady problem (own (other_than who) tables) (own (other_than who) old.memories)
    → HappensInDuo leaves problem tables old (duo.Sense who) (Sensed i) sensed
    → DuoTraces leaves problem tables sensed events outcomes new → All IsNoEdit events
    → IsUnhindered (length (own who tables).steps) true i (own_events who events) (own_outcomes who events outcomes)

-- Then the one reaches its goal as if it were alone, however the other's events fall between its own: after kernel `i` of a table of `n` steps
-- was sensed, acting and sensing in turn reaches the goal after at most `n + 1 - i` actions of its own, all of which are taken, and each
-- sensing finds a greater kernel. Only its own events are counted, so nothing is asked of their order among the other's.
abbrev pub SparedReachGoal : {E : Type 0} → (E → List Atom → List Atom) → Type 0
SparedReachGoal {E} leaves = (problem : Problem) (tables : Pair Table) (who : Who) (old sensed new : DuoRunning) (i : ℕ)
    (events : List (DuoEvent E)) (outcomes : List Outcome) (later : List (Event E))
    → IsValid problem → ((by : Who) → IsTable problem (own by tables))
    → Spares problem (own (other_than who) tables) (own who tables)
    → IsReady problem (own (other_than who) tables) (own (other_than who) old.memories)
    → HappensInDuo leaves problem tables old (duo.Sense who) (Sensed i) sensed
    → DuoTraces leaves problem tables sensed events outcomes new → All IsNoEdit events
    → own_events who events ≡ alternating (length (own who tables).steps + 1 - i) ++ later
    → ClimbsToGoal i (own_outcomes who events outcomes)
