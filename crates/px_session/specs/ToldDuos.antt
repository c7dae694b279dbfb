-- What follows from a lawful reply that prints what two executors did.
use Rattle.std.specs.Prelude.{◌≡◌, ℕ, Some, List, map}
use Rattle.px_terms.specs.declared.problem.Problem.{Problem}
use Rattle.px_table.specs.declared.table.Table.{Table}
use Rattle.px_planex.specs.Execution.{Memory}
use Rattle.px_duo.specs.Duos.{DuoTraces, Pair, both, duo_running, neither_sensed}
use Rattle.px_duo.specs.declared.event.DuoEvent.{DuoEvent}
use Rattle.px_duo.specs.declared.event.DuoEvent.TheVariants as duo
use Rattle.px_duo.specs.declared.event.Who.{Who}
use Rattle.px_printer.specs.declared.duo_line.DuoEnd.{DuoEnd}
use Rattle.px_printer.specs.declared.duo_line.DuoEnd.TheVariants.{Acted, Slipped}
use Rattle.px_printer.specs.declared.duo_line.DuoLine.{DuoLine}
use Rattle.px_printer.specs.declared.reply.Reply.TheVariants as reply
use Rattle.px_script.specs.declared.command.Command.TheVariants.{Duo}
use Rattle.px_session.specs.DuoRuns.{outcome_told, who_of}
use Rattle.px_session.specs.Lawful.{Lawful}
use Rattle.px_session.specs.Sessions.{SessionState, any_table, leaves_edit}

-- the event that a line tells: an action where a step was taken or not, and else a sensing
abbrev pub event_by_end : {E : Type 0} → Who → DuoEnd → DuoEvent E
event_by_end who Acted = duo.Act who
event_by_end who Slipped = duo.Act who
event_by_end who _ = duo.Sense who

abbrev pub event_told : {E : Type 0} → DuoLine → DuoEvent E
event_told line = event_by_end (who_of line.who) line.end

-- There is a line for each number, in order. Line by line the events have the outcomes that the lines say, and lead from the world's atoms
-- before to those after, where neither executor remembers anything at first.
pub record ToldDuos : Type 0 where
  pub numbered : (problem : Problem) (old : SessionState) (first second one other : ℕ) (numbers : List ℕ)
      (lines : List DuoLine) (new : SessionState)
      → Lawful problem old (Duo first second numbers) (reply.DuoRan one other lines) new → map (λ line. line.who) lines ≡ numbers
  pub traced : (problem : Problem) (old : SessionState) (first second one other : ℕ) (numbers : List ℕ)
      (table also : Table) (lines : List DuoLine) (new : SessionState)
      → any_table old first ≡ Some table → any_table old second ≡ Some also
      → Lawful problem old (Duo first second numbers) (reply.DuoRan one other lines) new
      → (memories : Pair Memory) × DuoTraces leaves_edit problem (both table also) (duo_running old.atoms neither_sensed)
      (map event_told lines) (map (λ line. outcome_told line.end) lines) (duo_running new.atoms memories)
