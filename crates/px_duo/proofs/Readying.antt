-- Each of two executors goes on to remember nothing, or a kernel that it can act by.
use Rattle.std.specs.Prelude.{◌≡◌, List, [], ◌∷◌}
use Rattle.std.proofs.Common.{sym, ap, subst}
use Rattle.px_terms.specs.declared.atom.Atom.{Atom}
use Rattle.px_terms.specs.declared.problem.Problem.{Problem}
use Rattle.px_table.specs.declared.table.Table.{Table}
use Rattle.px_planex.specs.Execution.{Memory}
use Rattle.px_planex.specs.declared.event.Outcome.{Outcome}
use Rattle.px_duo.specs.DuoLaws.{DuosStayReady}
use Rattle.px_duo.specs.Duos.{AreReady, DuoRunning, DuoTraces, HappensInDuo, IsReady, Pair, alone, own, with_own}
use Rattle.px_duo.specs.declared.event.DuoEvent.{DuoEvent}
use Rattle.px_duo.specs.declared.event.DuoEvent.TheVariants as duo
use Rattle.px_duo.specs.declared.event.Who.{Who}
use Rattle.px_duo.specs.declared.event.Who.TheVariants.{First, Second}
use Rattle.px_duo.proofs.Outcomes.{act_readies, sense_readies}

module _ {E : Type 0} (leaves : E → List Atom → List Atom) (problem : Problem) (tables : Pair Table) where
  -- where the one is ready, and each was
  both_ready : (who : Who) (memory : Memory) (memories : Pair Memory) → IsReady problem (own who tables) memory
      → AreReady problem tables memories → AreReady problem tables (with_own who memory memories)
  both_ready First memory memories here ready First = here
  both_ready First memory memories here ready Second = ready Second
  both_ready Second memory memories here ready First = ready First
  both_ready Second memory memories here ready Second = here

  pub event_readies : (event : DuoEvent E) (outcome : Outcome) (old mid : DuoRunning) → HappensInDuo leaves problem tables old event outcome mid
      → AreReady problem tables old.memories → AreReady problem tables mid.memories
  event_readies (duo.Disturb edit) outcome old mid h ready =
      subst (λ (d : DuoRunning). AreReady problem tables d.memories) (sym h.1) ready
  event_readies (duo.Sense who) outcome old mid h ready =
      subst (λ (d : DuoRunning). AreReady problem tables d.memories) (sym h.2)
      (both_ready who h.0.memory old.memories (sense_readies leaves problem (own who tables) (alone who old) h.0 outcome h.1) ready)
  event_readies (duo.Act who) outcome old mid h ready =
      subst (λ (d : DuoRunning). AreReady problem tables d.memories) (sym h.2)
      (both_ready who h.0.memory old.memories (act_readies leaves problem (own who tables) (alone who old) h.0 outcome (ready who) h.1) ready)

  events_ready : (events : List (DuoEvent E)) (outcomes : List Outcome) (old new : DuoRunning)
      → DuoTraces leaves problem tables old events outcomes new
      → AreReady problem tables old.memories → AreReady problem tables new.memories
  events_ready [] [] old new h ready = subst (λ (d : DuoRunning). AreReady problem tables d.memories) (sym h) ready
  events_ready [] (outcome ∷ outcomes) old new h ready = absurd h
  events_ready (event ∷ events) [] old new h ready = absurd h
  events_ready (event ∷ events) (outcome ∷ outcomes) old new h ready =
      events_ready events outcomes h.0 new h.2 (event_readies event outcome old h.0 h.1 ready)

pub duos_stay_ready : {E : Type 0} (leaves : E → List Atom → List Atom) → DuosStayReady leaves
duos_stay_ready leaves problem tables old new events outcomes ready h = events_ready leaves problem tables events outcomes old new h ready
