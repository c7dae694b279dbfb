-- What comes of sensing and acting where nothing disturbs the world.
use Rattle.std.specs.Prelude.{◌≡◌, ℕ, ◌<◌, ◌+◌, ◌-◌, Some, Option, List, [], ◌∷◌, length}
use Rattle.std.proofs.Common.{zero, suc}
use Rattle.px_terms.specs.declared.atom.Atom.{Atom}
use Rattle.px_terms.specs.declared.problem.Problem.{Problem}
use Rattle.px_terms.specs.Validity.{IsValid}
use Rattle.px_table.specs.declared.table.Table.{Table}
use Rattle.px_table.specs.Tables.{IsTable}
use Rattle.px_match.specs.Matching.{KernelInstance, IsSensed}
use Rattle.px_planex.specs.Execution.{Happens, Running, Traces}
use Rattle.px_planex.specs.declared.event.Event.{Event}
use Rattle.px_planex.specs.declared.event.Event.TheVariants.{Sense, Act}
use Rattle.px_planex.specs.declared.event.Outcome.{Outcome}
use Rattle.px_planex.specs.declared.event.Outcome.TheVariants.{Sensed, Acted, Goal}

-- an action directly after a kernel was sensed is taken, and what is sensed then is a greater kernel
abbrev pub ActsAndGoesOn : {E : Type 0} → (E → List Atom → List Atom) → Type 0
ActsAndGoesOn leaves = (problem : Problem) (table : Table) (bound : List (ℕ × ℕ)) (old sensed acted : Running) (i : ℕ) (outcome : Outcome)
    → IsValid problem → IsTable problem table
    → Happens leaves problem table bound old Sense (Sensed i) sensed → Happens leaves problem table bound sensed Act outcome acted
    → (outcome ≡ Acted) × ((answer : Option KernelInstance) → IsSensed problem table bound acted.atoms answer → (next : KernelInstance)
    × (answer ≡ Some next) × (i < next.number))

-- acting and sensing in turn, the given number of times
abbrev pub alternating : {E : Type 0} → ℕ → List (Event E)
alternating zero = []
alternating (suc count) = Act ∷ Sense ∷ alternating count

-- each action is taken and each sensing finds a greater kernel than the one before, which was kernel `i` at first, up to the goal;
-- what comes after the goal doesn't matter
abbrev pub ClimbsToGoal : ℕ → List Outcome → Type 0
ClimbsToGoal i (Acted ∷ Goal ∷ outcomes) = Unit {0}
ClimbsToGoal i (Acted ∷ Sensed j ∷ outcomes) = (i < j) × ClimbsToGoal j outcomes
ClimbsToGoal i outcomes = ⊥

-- after kernel `i` of a table of `n` steps was sensed, the goal comes in alternation after at most `n + 1 - i` actions
abbrev pub GoalIsReached : {E : Type 0} → (E → List Atom → List Atom) → Type 0
GoalIsReached leaves = (problem : Problem) (table : Table) (bound : List (ℕ × ℕ)) (old sensed new : Running) (i : ℕ)
    (outcomes : List Outcome)
    → IsValid problem → IsTable problem table → Happens leaves problem table bound old Sense (Sensed i) sensed
    → Traces leaves problem table bound sensed (alternating (length table.steps + 1 - i)) outcomes new → ClimbsToGoal i outcomes
