-- Each of two executors in one world is as if it were alone in it: the other's steps are disturbances.
use Rattle.std.specs.Prelude.{◌≡◌, Option, Some, List, [], ◌∷◌, ◌++◌, map}
use Rattle.px_terms.specs.declared.atom.Atom.{Atom}
use Rattle.px_terms.specs.declared.instance.OpInst.{OpInst}
use Rattle.px_terms.specs.declared.problem.Problem.{Problem}
use Rattle.px_terms.specs.Operators.{result_of}
use Rattle.px_table.specs.declared.table.Table.{Table}
use Rattle.px_planex.specs.Execution.{Traces, remembered_step}
use Rattle.px_planex.specs.declared.event.Event.{Event}
use Rattle.px_planex.specs.declared.event.Event.TheVariants.{Disturb, Sense, Act}
use Rattle.px_planex.specs.declared.event.Outcome.{Outcome}
use Rattle.px_planex.specs.declared.event.Outcome.TheVariants.{Disturbed, Acted}
use Rattle.px_duo.specs.Duos.{DuoRunning, DuoTraces, HappensInDuo, Pair, alone, own}
use Rattle.px_duo.specs.declared.event.DuoEvent.{DuoEvent}
use Rattle.px_duo.specs.declared.event.DuoEvent.TheVariants as duo
use Rattle.px_duo.specs.declared.event.Who.{Who}
use Rattle.px_duo.specs.declared.event.Who.TheVariants.{First, Second}

-- the one thing where the event is the one's own, and the other thing where it is the other's
abbrev pub if_own : {A : Type 0} → Who → Who → A → A → A
if_own First First mine theirs = mine
if_own Second Second mine theirs = mine
if_own First Second mine theirs = theirs
if_own Second First mine theirs = theirs

-- a change from outside, as one of the two has it: an edit, or a step of the other
pub data Change (E : Type 0) : Type 0 where
  Edited : E → Change E
  Stepped : OpInst → Change E

-- the atoms that the change leaves
abbrev pub leaves_change : {E : Type 0} → Problem → (E → List Atom → List Atom) → Change E → List Atom → List Atom
leaves_change problem leaves (Edited edit) atoms = leaves edit atoms
leaves_change problem leaves (Stepped inst) atoms = result_of problem atoms inst

-- an event of one executor, and its outcome
pub record Felt (E : Type 0) : Type 0 where
  pub event : Event E
  pub outcome : Outcome

abbrev pub felt : {E : Type 0} → Event E → Outcome → Felt E
felt event outcome = record { event = event; outcome = outcome }

-- an action of the other, whose step is this: a disturbance where it was taken, else nothing
abbrev pub felt_step : {E : Type 0} → Outcome → Option OpInst → List (Felt (Change E))
felt_step Acted (Some inst) = felt (Disturb (Stepped inst)) Disturbed ∷ []
felt_step outcome step = []

-- what the one feels of an event: its own events, the edits, and the steps that the other takes
abbrev pub felt_of : {E : Type 0} → Pair Table → Who → DuoRunning → DuoEvent E → Outcome → List (Felt (Change E))
felt_of tables who old (duo.Disturb edit) outcome = felt (Disturb (Edited edit)) outcome ∷ []
felt_of tables who old (duo.Sense by) outcome = if_own who by (felt Sense outcome ∷ []) []
felt_of tables who old (duo.Act by) outcome =
    if_own who by (felt Act outcome ∷ []) (felt_step outcome (remembered_step (own by tables) (own by old.memories)))

module _ {E : Type 0} (leaves : E → List Atom → List Atom) (problem : Problem) (tables : Pair Table) where
  -- what the one feels of these events, which have these outcomes one after the other
  abbrev pub Feels : Who → DuoRunning → List (DuoEvent E) → List Outcome → List (Felt (Change E)) → DuoRunning → Type 0
  Feels who old [] [] all new = (all ≡ []) × (new ≡ old)
  Feels who old [] (outcome ∷ outcomes) all new = ⊥
  Feels who old (event ∷ events) [] all new = ⊥
  Feels who old (event ∷ events) (outcome ∷ outcomes) all new =
      (mid : DuoRunning) × ((later : List (Felt (Change E))) × HappensInDuo leaves problem tables old event outcome mid
      × (all ≡ felt_of tables who old event outcome ++ later) × Feels who mid events outcomes later new)

-- Each of the two does what an executor by itself does, for which the edits and the steps that the other takes are disturbances, and the
-- other's remaining events nothing.
abbrev pub EachIsAlone : {E : Type 0} → (E → List Atom → List Atom) → Type 0
EachIsAlone {E} leaves = (problem : Problem) (tables : Pair Table) (who : Who) (old new : DuoRunning)
    (events : List (DuoEvent E)) (outcomes : List Outcome)
    → DuoTraces leaves problem tables old events outcomes new
    → (all : List (Felt (Change E))) × Feels leaves problem tables who old events outcomes all new
    × Traces (leaves_change problem leaves) problem (own who tables) [] (alone who old) (map (λ (one : Felt (Change E)). one.event) all)
    (map (λ (one : Felt (Change E)). one.outcome) all) (alone who new)
