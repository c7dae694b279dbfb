-- What comes of the events of two executors is determined, and something comes of each.
use Rattle.std.specs.Prelude.{◌≡◌, List}
use Rattle.px_terms.specs.declared.atom.Atom.{Atom}
use Rattle.px_terms.specs.declared.problem.Problem.{Problem}
use Rattle.px_terms.specs.Validity.{IsValid}
use Rattle.px_table.specs.declared.table.Table.{Table}
use Rattle.px_table.specs.Tables.{IsTable}
use Rattle.px_planex.specs.declared.event.Outcome.{Outcome}
use Rattle.px_duo.specs.Duos.{AreReady, DuoRunning, DuoTraces, Pair, own}
use Rattle.px_duo.specs.declared.event.DuoEvent.{DuoEvent}
use Rattle.px_duo.specs.declared.event.Who.{Who}

-- what comes of a list of events is determined
abbrev pub DuoTracesAreOne : {E : Type 0} → (E → List Atom → List Atom) → Type 0
DuoTracesAreOne {E} leaves = (problem : Problem) (tables : Pair Table) (old : DuoRunning) (events : List (DuoEvent E))
    (outcomes others : List Outcome) (new later : DuoRunning)
    → DuoTraces leaves problem tables old events outcomes new → DuoTraces leaves problem tables old events others later
    → (outcomes ≡ others) × (new ≡ later)

-- from where each of the two remembers nothing or a kernel that it can act by, any events have some outcomes
abbrev pub DuoTracesExist : {E : Type 0} → (E → List Atom → List Atom) → Type 0
DuoTracesExist {E} leaves = (problem : Problem) (tables : Pair Table) (old : DuoRunning) (events : List (DuoEvent E))
    → IsValid problem → ((who : Who) → IsTable problem (own who tables)) → AreReady problem tables old.memories
    → (outcomes : List Outcome) × ((new : DuoRunning) × DuoTraces leaves problem tables old events outcomes new)

-- and after any events it is so again
abbrev pub DuosStayReady : {E : Type 0} → (E → List Atom → List Atom) → Type 0
DuosStayReady {E} leaves = (problem : Problem) (tables : Pair Table) (old new : DuoRunning) (events : List (DuoEvent E))
    (outcomes : List Outcome)
    → AreReady problem tables old.memories → DuoTraces leaves problem tables old events outcomes new
    → AreReady problem tables new.memories
