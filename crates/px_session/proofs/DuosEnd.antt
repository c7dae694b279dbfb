-- Two executors have a line for each number.
use Rattle.std.specs.Prelude.{◌≡◌, ℕ, Option, Some, None, List, [], ◌∷◌}
use Rattle.std.proofs.Common.{refl, sym, subst}
use Rattle.px_terms.specs.declared.atom.Atom.{Atom}
use Rattle.px_terms.specs.declared.problem.Problem.{Problem}
use Rattle.px_terms.specs.Validity.{IsValid}
use Rattle.px_table.specs.declared.table.Table.{Table}
use Rattle.px_table.specs.Tables.{IsTable}
use Rattle.px_match.specs.Matching.{KernelInstance}
use Rattle.px_planex.specs.declared.event.Outcome.{Outcome}
use Rattle.px_planex.specs.declared.event.Outcome.TheVariants as outcome
use Rattle.px_planex.specs.Execution.{remembered_step}
use Rattle.px_duo.specs.DuoLaws.{DuoTracesExist, DuosStayReady}
use Rattle.px_duo.specs.Duos.{AreReady, DuoRunning, DuoTraces, HappensInDuo, Pair, duo_running, neither_sensed, own}
use Rattle.px_duo.specs.declared.event.DuoEvent.{DuoEvent}
use Rattle.px_duo.specs.declared.event.Who.{Who}
use Rattle.px_duo.specs.declared.event.Who.TheVariants.{First, Second}
use Rattle.px_printer.specs.declared.duo_line.DuoEnd.{DuoEnd}
use Rattle.px_printer.specs.declared.duo_line.DuoEnd.TheVariants.{Sensed, Acted, Slipped, Goal, NoKernel}
use Rattle.px_printer.specs.declared.duo_line.DuoLine.{DuoLine}
use Rattle.px_session.specs.DuoRuns.{AreDuoLines, IsDuoLine, RunsDuo, event_of, next_event, outcome_told, step_told, who_of}

none-some : {A G : Type 0} (o : Option A) (a : A) → o ≡ None → o ≡ Some a → G
none-some o a e f = absurd (cc)

module _ {E : Type 0} (leaves : E → List Atom → List Atom) (traces-exist : DuoTracesExist leaves) (stay-ready : DuosStayReady leaves)
    (problem : Problem) (valid : IsValid problem) (tables : Pair Table) (are_tables : (who : Who) → IsTable problem (own who tables)) where
  abbrev Comes : DuoRunning → DuoEvent E → Type 0
  Comes old event = (came : Outcome) × ((new : DuoRunning) × HappensInDuo leaves problem tables old event came new)

  only-one : (old new : DuoRunning) (event : DuoEvent E) (outcomes : List Outcome)
      → DuoTraces leaves problem tables old (event ∷ []) outcomes new → Comes old event
  only-one old new event [] traces = absurd traces
  only-one old new event (came ∷ outcomes) traces = (came, (traces.0, traces.1))

  comes : (old : DuoRunning) (event : DuoEvent E) → AreReady problem tables old.memories → Comes old event
  comes old event ready =
      let found = traces-exist problem tables old (event ∷ []) valid are_tables ready in
      only-one old found.1.0 event found.0 found.1.1

  -- what comes of a sensing, or of an action where a kernel is remembered, can be told
  abbrev IsTold : Outcome → Type 0
  IsTold came = (end : DuoEnd) × (outcome_told end ≡ came)

  told : (old new : DuoRunning) (who : Who) (remembered : Option KernelInstance) (came : Outcome)
      → (own who old.memories).remembered ≡ remembered → HappensInDuo leaves problem tables old (event_of {E = E} who remembered) came new
      → IsTold came
  told old new who None outcome.Disturbed is happens = absurd happens.1
  told old new who None outcome.Acted is happens = absurd happens.1
  told old new who None outcome.Slipped is happens = absurd happens.1
  told old new who None outcome.NotSensed is happens = absurd happens.1
  told old new who None outcome.NoKernel is happens = (NoKernel, refl)
  told old new who None outcome.Goal is happens = (Goal, refl)
  told old new who None (outcome.Sensed i) is happens = (Sensed i, refl)
  told old new who (Some kernel) outcome.Disturbed is happens = absurd happens.1
  told old new who (Some kernel) outcome.NoKernel is happens = absurd happens.1
  told old new who (Some kernel) outcome.Goal is happens = absurd happens.1
  told old new who (Some kernel) (outcome.Sensed i) is happens = absurd happens.1
  told old new who (Some kernel) outcome.NotSensed is happens = none-some (own who old.memories).remembered kernel happens.1.0 is
  told old new who (Some kernel) outcome.Acted is happens = (Acted, refl)
  told old new who (Some kernel) outcome.Slipped is happens = (Slipped, refl)

  abbrev IsLined : ℕ → DuoRunning → Type 0
  IsLined number old = (line : DuoLine) × ((new : DuoRunning) × IsDuoLine leaves problem tables number old line new
      × AreReady problem tables new.memories)

  line-there : (number : ℕ) (old : DuoRunning) → AreReady problem tables old.memories → IsLined number old
  line-there number old ready =
      let event : DuoEvent E = next_event number old.memories in
      let found = comes old event ready in
      let new = found.1.0 in
      let end = told old new (who_of number) (own (who_of number) old.memories).remembered found.0 refl found.1.1 in
      let step = step_told end.0 (remembered_step (own (who_of number) tables) (own (who_of number) new.memories)) in (
        record { who = number; end = end.0; op = step },
        (
          new,
          record {
            who = refl;
            happens = subst (λ (o : Outcome). HappensInDuo leaves problem tables old event o new) (sym end.1) found.1.1;
            step = refl;
          },
          stay-ready problem tables old new (event ∷ []) (found.0 ∷ []) ready (new, found.1.1, refl),
        ),
      )

  lines-there : (numbers : List ℕ) (old : DuoRunning) → AreReady problem tables old.memories
      → (lines : List DuoLine) × ((new : DuoRunning) × AreDuoLines leaves problem tables numbers old lines new)
  lines-there [] old ready = ([], (old, refl))
  lines-there (number ∷ numbers) old ready =
      let first = line-there number old ready in
      let rest = lines-there numbers first.1.0 first.1.2 in
      (first.0 ∷ rest.0, (rest.1.0, (first.1.0, first.1.1, rest.1.1)))

  ready-first : AreReady problem tables neither_sensed
  ready-first First = (tt, tt)
  ready-first Second = (tt, tt)

  pub duo-ends : (atoms : List Atom) (numbers : List ℕ)
      → (lines : List DuoLine) × ((after : List Atom) × RunsDuo leaves problem tables atoms numbers lines after)
  duo-ends atoms numbers =
      let found = lines-there numbers (duo_running atoms neither_sensed) ready-first in
      (found.0, (found.1.0.atoms, (found.1.0.memories, found.1.1)))
