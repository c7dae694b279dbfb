-- Two executors in one world: what comes of an event of the world, or of one of them.
use Rattle.std.specs.Prelude.{◌≡◌, ℕ, List, [], ◌∷◌}
use Rattle.px_terms.specs.declared.atom.Atom.{Atom}
use Rattle.px_terms.specs.declared.problem.Problem.{Problem}
use Rattle.px_table.specs.declared.table.Table.{Table}
use Rattle.px_planex.specs.Execution.{Happens, Memory, Running, nothing_sensed, remembered_step}
use Rattle.px_planex.specs.Executors.{IsActable, KernelObjectsFit, places_for, running}
use Rattle.px_planex.specs.declared.event.Event.{Event}
use Rattle.px_planex.specs.declared.event.Event.TheVariants.{Sense, Act}
use Rattle.px_planex.specs.declared.event.Outcome.{Outcome}
use Rattle.px_planex.specs.declared.event.Outcome.TheVariants.{Disturbed}
use Rattle.px_duo.specs.declared.event.DuoEvent.{DuoEvent}
use Rattle.px_duo.specs.declared.event.DuoEvent.TheVariants as duo
use Rattle.px_duo.specs.declared.event.Who.{Who}
use Rattle.px_duo.specs.declared.event.Who.TheVariants.{First, Second}

-- ---- one of two

-- what each of the two has
pub record Pair (A : Type 0) : Type 0 where
  pub first : A
  pub second : A

abbrev pub both : {A : Type 0} → A → A → Pair A
both first second = record { first = first; second = second }

-- what the one has
abbrev pub own : {A : Type 0} → Who → Pair A → A
own First pair = pair.first
own Second pair = pair.second

abbrev pub other_than : Who → Who
other_than First = Second
other_than Second = First

-- the same, but that the one has this
abbrev pub with_own : {A : Type 0} → Who → A → Pair A → Pair A
with_own First new pair = both new pair.second
with_own Second new pair = both pair.first new

-- ---- where two executors stand

-- the world's atoms, and what each of the two remembers
pub record DuoRunning : Type 0 where
  pub atoms : List Atom
  pub memories : Pair Memory

abbrev pub duo_running : List Atom → Pair Memory → DuoRunning
duo_running atoms memories = record { atoms = atoms; memories = memories }

-- before either senses anything
abbrev pub neither_sensed : Pair Memory
neither_sensed = both nothing_sensed nothing_sensed

-- the world's atoms, and what the one remembers
abbrev pub alone : Who → DuoRunning → Running
alone who old = running old.atoms (own who old.memories)

-- the one has come to this, and the other remembers what it did
abbrev pub come_to : Who → Running → DuoRunning → DuoRunning
come_to who new old = duo_running new.atoms (with_own who new.memory old.memories)

-- the executor remembers nothing, or a kernel of a step of its table, with objects of the problem that fit the parameters
abbrev pub IsReady : Problem → Table → Memory → Type 0
IsReady problem table memory = IsActable problem table memory.remembered × KernelObjectsFit problem table memory.remembered

abbrev pub AreReady : Problem → Pair Table → Pair Memory → Type 0
AreReady problem tables memories = (who : Who) → IsReady problem (own who tables) (own who memories)

-- ---- events

-- for how many atoms the event may want a place in the world
abbrev pub places_of_duo : {E : Type 0} → Problem → Pair Table → Pair Memory → DuoEvent E → ℕ
places_of_duo problem tables memories (duo.Disturb edit) = 1
places_of_duo problem tables memories (duo.Sense who) = 0
places_of_duo problem tables memories (duo.Act who) = places_for problem (remembered_step (own who tables) (own who memories))

-- two executors of these tables, in which nothing is bound, in a world in which an edit leaves these atoms
module _ {E : Type 0} (leaves : E → List Atom → List Atom) (problem : Problem) (tables : Pair Table) where
  -- the event of the one has this outcome as if the one were alone in the world; the other's memory stays
  abbrev pub HappensTo : Who → DuoRunning → Event E → Outcome → DuoRunning → Type 0
  HappensTo who old event outcome new =
      (seen : Running) × Happens leaves problem (own who tables) [] (alone who old) event outcome seen × (new ≡ come_to who seen old)

  -- the event may have this outcome, and lead from the one to the other
  abbrev pub HappensInDuo : DuoRunning → DuoEvent E → Outcome → DuoRunning → Type 0
  HappensInDuo old (duo.Disturb edit) outcome new = (outcome ≡ Disturbed) × (new ≡ duo_running (leaves edit old.atoms) old.memories)
  HappensInDuo old (duo.Sense who) outcome new = HappensTo who old Sense outcome new
  HappensInDuo old (duo.Act who) outcome new = HappensTo who old Act outcome new

  -- these events may have these outcomes, one after the other
  abbrev pub DuoTraces : DuoRunning → List (DuoEvent E) → List Outcome → DuoRunning → Type 0
  DuoTraces old [] [] new = new ≡ old
  DuoTraces old [] (outcome ∷ outcomes) new = ⊥
  DuoTraces old (event ∷ events) [] new = ⊥
  DuoTraces old (event ∷ events) (outcome ∷ outcomes) new =
      (mid : DuoRunning) × HappensInDuo old event outcome mid × DuoTraces mid events outcomes new
