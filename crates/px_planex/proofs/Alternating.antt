-- Acting and sensing in turn reaches the goal where nothing disturbs the world.
use Rattle.std.specs.Prelude.{◌≡◌, ℕ, ◌<◌, ◌≤◌, ◌+◌, ◌-◌, Some, None, Option, List, [], ◌∷◌, length}
use Rattle.std.proofs.Common.{zero, suc, sym, ap, subst, arith}
use Rattle.px_terms.specs.declared.atom.Atom.{Atom}
use Rattle.px_terms.specs.declared.problem.Problem.{Problem}
use Rattle.px_terms.specs.Validity.{IsValid}
use Rattle.px_base.specs.Answers.{some_same}
use Rattle.px_table.specs.declared.table.Table.{Table}
use Rattle.px_table.specs.Tables.{IsTable}
use Rattle.px_match.specs.Matching.{KernelInstance, IsSensed}
use Rattle.px_planex.specs.declared.event.Event.TheVariants.{Sense}
use Rattle.px_planex.specs.declared.event.Outcome.{Outcome}
use Rattle.px_planex.specs.declared.event.Outcome.TheVariants.{Disturbed, Sensed, Acted, Slipped, Goal, NoKernel, NotSensed}
use Rattle.px_planex.specs.Execution.{Happens, Running, Traces}
use Rattle.px_planex.specs.Progress.{ClimbsToGoal, GoalIsReached, alternating}
use Rattle.px_planex.proofs.Progressing.{acts_and_goes_on}

module _ {E : Type 0} (leaves : E → List Atom → List Atom) (problem : Problem) (table : Table) (bound : List (ℕ × ℕ))
    (valid : IsValid problem) (is_table : IsTable problem table) where
  -- what is sensed after the action, where only a greater kernel is
  abbrev Greater : ℕ → Running → Type 0
  Greater i acted =
      (answer : Option KernelInstance) → IsSensed problem table bound acted.atoms answer
      → (next : KernelInstance) × (answer ≡ Some next) × (i < next.number)

  -- the sensing after the action finds the goal, or a greater kernel from which the rest climbs
  further : (i : ℕ) (acted mid : Running) (outcome : Outcome) (outcomes : List Outcome) → Greater i acted
      → Happens leaves problem table bound acted Sense outcome mid
      → ((j : ℕ) → i < j → Happens leaves problem table bound acted Sense (Sensed j) mid → ClimbsToGoal j outcomes)
      → ClimbsToGoal i (Acted ∷ outcome ∷ outcomes)
  further i acted mid Disturbed outcomes greater sense rest = absurd sense
  further i acted mid Acted outcomes greater sense rest = absurd sense
  further i acted mid Slipped outcomes greater sense rest = absurd sense
  further i acted mid NotSensed outcomes greater sense rest = absurd sense
  further i acted mid Goal outcomes greater sense rest = tt
  further i acted mid NoKernel outcomes greater sense rest = absurd (let next = greater None sense.0 in cc (next.1))
  further i acted mid (Sensed j) outcomes greater sense rest =
      let next = greater (Some sense.0) sense.1 in
      let same : sense.0 ≡ next.0 = some_same next.1 in
      let above : i < j = omega (arith, next.2, ap (λ (k : KernelInstance). k.number) same, sense.2) in
      (above, rest j above sense)

  climbs : (count i : ℕ) (old sensed new : Running) (outcomes : List Outcome) → length table.steps + 1 ≤ i + count
      → Happens leaves problem table bound old Sense (Sensed i) sensed
      → Traces leaves problem table bound sensed (alternating count) outcomes new → ClimbsToGoal i outcomes
  climbs zero i old sensed new outcomes enough sense trace = absurd (omega (arith, enough, sense.3))
  climbs (suc count) i old sensed new [] enough sense trace = absurd trace
  climbs (suc count) i old sensed new (first ∷ []) enough sense trace = absurd trace.2
  climbs (suc count) i old sensed new (first ∷ outcome ∷ outcomes) enough sense trace =
      let acts = acts_and_goes_on leaves problem table bound old sensed trace.0 i first valid is_table sense trace.1 in
      subst (λ (o : Outcome). ClimbsToGoal i (o ∷ outcome ∷ outcomes)) (sym acts.0)
      (further i trace.0 trace.2.0 outcome outcomes acts.1 trace.2.1
      (λ j above sensed_again. climbs count j trace.0 trace.2.0 new outcomes (omega (arith, enough, above)) sensed_again trace.2.2))

pub goal_is_reached : {E : Type 0} (leaves : E → List Atom → List Atom) → GoalIsReached leaves
goal_is_reached leaves problem table bound old sensed new i outcomes valid is_table sense trace =
    climbs leaves problem table bound valid is_table (length table.steps + 1 - i) i old sensed new outcomes (omega arith) sense trace
