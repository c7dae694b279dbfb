-- Each list of events of two executors has a trace, since each list of events of one executor has.
use Rattle.std.specs.Prelude.{◌≡◌, List, [], ◌∷◌}
use Rattle.std.proofs.Common.{refl}
use Rattle.px_terms.specs.declared.atom.Atom.{Atom}
use Rattle.px_terms.specs.declared.problem.Problem.{Problem}
use Rattle.px_terms.specs.Validity.{IsValid}
use Rattle.px_table.specs.declared.table.Table.{Table}
use Rattle.px_table.specs.Tables.{IsTable}
use Rattle.px_planex.specs.Execution.{Happens, Running, Traces}
use Rattle.px_planex.specs.Existing.{TracesExist}
use Rattle.px_planex.specs.declared.event.Event.{Event}
use Rattle.px_planex.specs.declared.event.Event.TheVariants.{Sense, Act}
use Rattle.px_planex.specs.declared.event.Outcome.{Outcome}
use Rattle.px_planex.specs.declared.event.Outcome.TheVariants.{Disturbed}
use Rattle.px_duo.specs.DuoLaws.{DuoTracesExist}
use Rattle.px_duo.specs.Duos.{AreReady, DuoRunning, DuoTraces, HappensInDuo, HappensTo, Pair, alone, come_to, duo_running, own}
use Rattle.px_duo.specs.declared.event.DuoEvent.{DuoEvent}
use Rattle.px_duo.specs.declared.event.DuoEvent.TheVariants as duo
use Rattle.px_duo.specs.declared.event.Who.{Who}
use Rattle.px_duo.proofs.Readying.{event_readies}

module _ {E : Type 0} (leaves : E → List Atom → List Atom) (exist : TracesExist leaves) (problem : Problem) (valid : IsValid problem)
    (tables : Pair Table) (are_tables : (who : Who) → IsTable problem (own who tables)) where
  -- something comes of the event
  abbrev Comes : DuoRunning → DuoEvent E → Type 0
  Comes old event = (outcome : Outcome) × ((new : DuoRunning) × HappensInDuo leaves problem tables old event outcome new)

  -- a trace of one event is what comes of it
  one_event : (who : Who) (old : DuoRunning) (event : Event E) (outcomes : List Outcome) (seen : Running)
      → Traces leaves problem (own who tables) [] (alone who old) (event ∷ []) outcomes seen
      → (outcome : Outcome) × ((new : DuoRunning) × HappensTo leaves problem tables who old event outcome new)
  one_event who old event [] seen h = absurd h
  one_event who old event (outcome ∷ outcomes) seen h = (outcome, (come_to who h.0 old, (h.0, h.1, refl)))

  comes_to : (who : Who) (old : DuoRunning) (event : Event E) → AreReady problem tables old.memories
      → (outcome : Outcome) × ((new : DuoRunning) × HappensTo leaves problem tables who old event outcome new)
  comes_to who old event ready =
      let trace = exist problem (own who tables) [] (alone who old) (event ∷ []) valid (are_tables who) (ready who).0 in
      one_event who old event trace.0 trace.1.0 trace.1.1

  comes : (event : DuoEvent E) (old : DuoRunning) → AreReady problem tables old.memories → Comes old event
  comes (duo.Disturb edit) old ready = (Disturbed, (duo_running (leaves edit old.atoms) old.memories, (refl, refl)))
  comes (duo.Sense who) old ready = comes_to who old Sense ready
  comes (duo.Act who) old ready = comes_to who old Act ready

  duo_traces : (events : List (DuoEvent E)) (old : DuoRunning) → AreReady problem tables old.memories
      → (outcomes : List Outcome) × ((new : DuoRunning) × DuoTraces leaves problem tables old events outcomes new)
  duo_traces [] old ready = ([], (old, refl))
  duo_traces (event ∷ events) old ready =
      let first = comes event old ready in
      let rest = duo_traces events first.1.0 (event_readies leaves problem tables event first.0 old first.1.0 first.1.1 ready) in
      (first.0 ∷ rest.0, (rest.1.0, (first.1.0, first.1.1, rest.1.1)))

pub duo_traces_exist : {E : Type 0} (leaves : E → List Atom → List Atom) → TracesExist leaves → DuoTracesExist leaves
duo_traces_exist leaves exist problem tables old events valid are_tables ready =
    duo_traces leaves exist problem valid tables are_tables events old ready
