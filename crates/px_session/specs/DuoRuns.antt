-- What two executors do in one world, line by line, as a reply prints it.
use Rattle.std.specs.Prelude.{◌≡◌, ◌==◌, ℕ, cond, Option, None, Some, List, [], ◌∷◌}
use Rattle.px_terms.specs.declared.atom.Atom.{Atom}
use Rattle.px_terms.specs.declared.instance.OpInst.{OpInst}
use Rattle.px_terms.specs.declared.problem.Problem.{Problem}
use Rattle.px_table.specs.declared.table.Table.{Table}
use Rattle.px_match.specs.Matching.{KernelInstance}
use Rattle.px_planex.specs.Execution.{Memory, remembered_step}
use Rattle.px_planex.specs.declared.event.Outcome.{Outcome}
use Rattle.px_planex.specs.declared.event.Outcome.TheVariants as outcome
use Rattle.px_duo.specs.Duos.{DuoRunning, HappensInDuo, Pair, duo_running, neither_sensed, own}
use Rattle.px_duo.specs.declared.event.DuoEvent.{DuoEvent}
use Rattle.px_duo.specs.declared.event.DuoEvent.TheVariants as duo
use Rattle.px_duo.specs.declared.event.Who.{Who}
use Rattle.px_duo.specs.declared.event.Who.TheVariants.{First, Second}
use Rattle.px_printer.specs.declared.duo_line.DuoEnd.{DuoEnd}
use Rattle.px_printer.specs.declared.duo_line.DuoEnd.TheVariants.{Sensed, Acted, Slipped, Goal, NoKernel}
use Rattle.px_printer.specs.declared.duo_line.DuoLine.{DuoLine}

-- the executor of a number: 1 is the first, and 2 the second
abbrev pub who_of : ℕ → Who
who_of number = cond (number == 1) First Second

-- the one acts where it remembers a kernel, and senses where it remembers none
abbrev pub event_of : {E : Type 0} → Who → Option KernelInstance → DuoEvent E
event_of who None = duo.Sense who
event_of who (Some kernel) = duo.Act who

-- what the event of the executor of that number is
abbrev pub next_event : {E : Type 0} → ℕ → Pair Memory → DuoEvent E
next_event number memories = event_of (who_of number) (own (who_of number) memories).remembered

-- what came of the event, as a line prints it
abbrev pub outcome_told : DuoEnd → Outcome
outcome_told (Sensed kernel) = outcome.Sensed kernel
outcome_told Acted = outcome.Acted
outcome_told Slipped = outcome.Slipped
outcome_told Goal = outcome.Goal
outcome_told NoKernel = outcome.NoKernel

-- a step is printed where a kernel was sensed
abbrev pub step_told : DuoEnd → Option OpInst → Option OpInst
step_told (Sensed kernel) step = step
step_told _ step = None

module _ {E : Type 0} (leaves : E → List Atom → List Atom) (problem : Problem) (tables : Pair Table) where
  -- The executor of that number is next. The line has its number, what came of what it did, and where it sensed a kernel the step that it
  -- remembers then.
  pub record IsDuoLine (number : ℕ) (old : DuoRunning) (line : DuoLine) (new : DuoRunning) : Type 0 where
    pub who : line.who ≡ number
    pub happens : HappensInDuo leaves problem tables old (next_event number old.memories) (outcome_told line.end) new
    pub step : line.op ≡ step_told line.end (remembered_step (own (who_of number) tables) (own (who_of number) new.memories))

  -- a line for each number, one after the other
  abbrev pub AreDuoLines : List ℕ → DuoRunning → List DuoLine → DuoRunning → Type 0
  AreDuoLines [] old [] new = new ≡ old
  AreDuoLines [] old (line ∷ lines) new = ⊥
  AreDuoLines (number ∷ numbers) old [] new = ⊥
  AreDuoLines (number ∷ numbers) old (line ∷ lines) new = (mid : DuoRunning) × IsDuoLine number old line mid × AreDuoLines numbers mid lines new

-- two executors of these tables, in a world of these atoms, remember nothing at first; they have these lines, and leave those atoms
abbrev pub RunsDuo : {E : Type 0} → (E → List Atom → List Atom) → Problem → Pair Table → List Atom → List ℕ → List DuoLine → List Atom → Type 0
RunsDuo leaves problem tables atoms numbers lines after =
    (memories : Pair Memory)
    × AreDuoLines leaves problem tables numbers (duo_running atoms neither_sensed) lines (duo_running after memories)
