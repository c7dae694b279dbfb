-- How a turn is reported.
use Rattle.std.specs.Prelude.{◌≡◌, ◌⊎◌, ℕ, true, false, Option, None, List}
use Rattle.std.proofs.Common.{refl, subst, inl, inr}
use Rattle.px_terms.specs.declared.atom.Atom.{Atom}
use Rattle.px_terms.specs.declared.instance.OpInst.{OpInst}
use Rattle.px_planex.specs.declared.event.Event.TheVariants.{Sense, Act}
use Rattle.px_planex.specs.declared.event.Outcome.{Outcome}
use Rattle.px_planex.specs.declared.event.Outcome.TheVariants as outcome
use Rattle.px_planex.specs.Execution.{Happens, Memory, Running, remembered_step}
use Rattle.px_planex.specs.Executors.{PlanexValue, running}
use Rattle.px_planex.specs.Turns.{EndsTurn, Recorded, after_edits, edits_at}
use Rattle.px_printer.specs.declared.turn.Turn.{Turn}
use Rattle.px_printer.specs.declared.turn.TurnEnd.{TurnEnd}
use Rattle.px_printer.specs.declared.turn.TurnEnd.TheVariants as told
use Rattle.px_turns.specs.Told.{end_told, turn_told}
use Rattle.px_turns.specs.Turning.{EndsSensed, TakesNumbered}

module _ {E : Type 0} (leaves : E → List Atom → List Atom) (planex : PlanexValue) (recorded : List (Recorded E)) (number : ℕ) where
  abbrev Happened : Running → Outcome → Running → Type 0
  Happened old outcome new = Happens leaves planex.problem planex.table planex.bound old Act outcome new

  turn-is : (kernel : ℕ) (op step : Option OpInst) (end other : TurnEnd) → op ≡ step → end ≡ other
      → turn_told (record { kernel = kernel; op = op; end = end }) ≡ record { kernel = kernel; op = step; end = end_told other }
  turn-is kernel op step end other same_op same_end = λ i. record { kernel = kernel; op = same_op i; end = end_told (same_end i) }

  happened-by : (atoms mid after : List Atom) (memory : Memory) (answer same : Outcome)
      → mid ≡ after_edits leaves (edits_at recorded number true) atoms → answer ≡ same
      → Happened (running mid planex.memory) answer (running after memory)
      → Happened (running (after_edits leaves (edits_at recorded number true) atoms) planex.memory) same (running after memory)
  happened-by atoms mid after memory answer same mid_is is happens =
      subst (λ (o : Outcome). Happened (running (after_edits leaves (edits_at recorded number true) atoms) planex.memory) o
      (running after memory)) is
      (subst (λ (m : List Atom). Happened (running m planex.memory) answer (running after memory)) mid_is happens)

  pub act-ends : (kernel : ℕ) (atoms mid after : List Atom) (memory : Memory) (op : Option OpInst) (end : TurnEnd) (answer : Outcome)
      → mid ≡ after_edits leaves (edits_at recorded number true) atoms → op ≡ remembered_step planex.table planex.memory
      → Happened (running mid planex.memory) answer (running after memory)
      → ((answer ≡ outcome.Acted) × (end ≡ told.Acted)) ⊎ ((answer ≡ outcome.Slipped) × (end ≡ told.Slipped))
      → EndsSensed leaves planex recorded number kernel atoms (record { kernel = kernel; op = op; end = end }) after memory
  act-ends kernel atoms mid after memory op end answer mid_is op_is happens (inl (is, told_as)) = inl (
    turn-is kernel op (remembered_step planex.table planex.memory) end told.Acted op_is told_as,
    happened-by atoms mid after memory answer outcome.Acted mid_is is happens,
  )
  act-ends kernel atoms mid after memory op end answer mid_is op_is happens (inr (is, told_as)) = inr (
    turn-is kernel op (remembered_step planex.table planex.memory) end told.Slipped op_is told_as,
    happened-by atoms mid after memory answer outcome.Slipped mid_is is happens,
  )

  abbrev Senses : List Atom → Outcome → Running → Type 0
  Senses atoms answer new = Happens leaves planex.problem planex.table planex.bound (running atoms planex.memory) Sense answer new

  -- a kernel is sensed, and the executor acts
  pub takes-sensed : (next : PlanexValue) (kernel : ℕ) (atoms mid sensed after : List Atom) (memory : Memory) (turn : Turn)
      → mid ≡ after_edits leaves (edits_at recorded number false) atoms → next ≡ record planex { memory = next.memory }
      → Senses mid (outcome.Sensed kernel) (running sensed next.memory)
      → EndsSensed leaves next recorded number kernel sensed turn after memory
      → TakesNumbered leaves planex recorded number atoms turn after memory
  takes-sensed next kernel atoms mid sensed after memory turn mid_is frame senses ends = (
    outcome.Sensed kernel,
    (
      running sensed next.memory,
      subst (λ (m : List Atom). Senses m (outcome.Sensed kernel) (running sensed next.memory)) mid_is senses,
      subst (λ (p : PlanexValue). EndsTurn leaves p.problem p.table p.bound (edits_at recorded number true)
          (running sensed next.memory) (outcome.Sensed kernel)
          (turn_told turn) (running after memory)) frame ends,
    ),
  )

  -- no kernel is sensed
  pub takes-none : (atoms mid after : List Atom) (memory : Memory) → mid ≡ after_edits leaves (edits_at recorded number false) atoms
      → Senses mid outcome.NoKernel (running after memory)
      → TakesNumbered leaves planex recorded number atoms (record { kernel = 0; op = None; end = told.NoKernel }) after memory
  takes-none atoms mid after memory mid_is senses = (
    outcome.NoKernel,
    (running after memory, subst (λ (m : List Atom). Senses m outcome.NoKernel (running after memory)) mid_is senses, (refl, refl)),
  )
