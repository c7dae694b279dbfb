-- What contracts see of an executor, and how much room its events take.
use Rattle.std.specs.Prelude.{◌≡◌, ℕ, ◌≤◌, ◌+◌, Option, Some, None, List, length}
use Rattle.px_terms.specs.Validity.{IsValid}
use Rattle.px_table.specs.WellSorted.{ParametersFit}
use Rattle.px_terms.specs.declared.atom.Atom.{Atom}
use Rattle.px_terms.specs.declared.problem.Problem.{Problem}
use Rattle.px_terms.specs.declared.instance.OpInst.{OpInst}
use Rattle.px_terms.specs.Operators.{adds, result_of}
use Rattle.px_table.specs.declared.table.Table.{Table}
use Rattle.px_ops.specs.ModelValue.{ModelValue}
use Rattle.px_table.specs.Kernels.{IsInstantiation}
use Rattle.px_table.specs.Tables.{IsTable}
use Rattle.px_match.specs.Matching.{KernelInstance}
use Rattle.px_match.specs.MatcherValue.{MatcherValue}
use Rattle.px_world.specs.Worlds.{EditsAddOne}
use Rattle.px_planex.specs.Execution.{Happens, Memory, KernelRowHolds, Running, remembered_step, step_of_kernel}
use Rattle.px_planex.specs.declared.event.Event.{Event}
use Rattle.px_planex.specs.declared.event.Event.TheVariants.{Disturb, Sense, Act}
use Rattle.px_planex.specs.declared.event.Outcome.{Outcome}
use Rattle.px_planex.specs.declared.event.Outcome.TheVariants.{Disturbed, Acted}

-- the problem, the table, the binding, the greatest number of atoms of a world, and what is remembered
pub record PlanexValue : Type 0 where
  pub problem : Problem
  pub table : Table
  pub bound : List (ℕ × ℕ)
  pub room : ℕ
  pub memory : Memory

-- the kernel, if there is one, has the number of a step, and an object of the problem for each parameter
abbrev pub IsActable : Problem → Table → Option KernelInstance → Type 0
IsActable problem table None = Unit {0}
IsActable problem table (Some kernel) = (1 ≤ kernel.number) × (kernel.number ≤ length table.steps)
    × IsInstantiation problem table kernel.objects

-- the objects of the kernel, if there is one, fit the table's parameters
abbrev pub KernelObjectsFit : Problem → Table → Option KernelInstance → Type 0
KernelObjectsFit problem table None = Unit {0}
KernelObjectsFit problem table (Some kernel) = ParametersFit problem.object_sorts table kernel.objects

-- how many atoms the step adds, if there is one
abbrev pub places_for : Problem → Option OpInst → ℕ
places_for problem None = 0
places_for problem (Some inst) = length (adds problem inst)

-- for how many atoms the event may want a place in the world
abbrev pub places_of : {E : Type 0} → Problem → Table → Memory → Event E → ℕ
places_of problem table memory (Disturb edit) = 1
places_of problem table memory Sense = 0
places_of problem table memory Act = places_for problem (remembered_step table memory)

-- a world of these atoms, with what the executor remembers
abbrev pub running : List Atom → Memory → Running
running atoms memory = record { atoms = atoms; memory = memory }

-- an event with this outcome leaves the world as it was
abbrev pub ChangesNothing : Outcome → Type 0
ChangesNothing Disturbed = ⊥
ChangesNothing Acted = ⊥
ChangesNothing outcome = Unit {0}

-- an event adds no more atoms than the places that it may want, and the same atoms where its outcome changes nothing
abbrev pub EventsTakePlaces : {E : Type 0} → (E → List Atom → List Atom) → Type 0
EventsTakePlaces {E} leaves = (problem : Problem) (table : Table) (bound : List (ℕ × ℕ)) (old new : Running) (event : Event E)
    (outcome : Outcome)
    → EditsAddOne leaves → Happens leaves problem table bound old event outcome new
    → (length new.atoms ≤ length old.atoms + places_of problem table old.memory event) × (ChangesNothing outcome → new.atoms ≡ old.atoms)

-- ---- what an executor keeps

-- the matcher is the table's, there is room for the atoms of a world, and what is remembered can be acted by, with objects that fit
pub record IsExecutorReady (problem : Problem) (table : Table) (matcher : MatcherValue) (sensed : ModelValue) (room : ℕ)
    (remembered : Option KernelInstance) : Type 0 where
  pub valid : IsValid problem
  pub is_table : IsTable problem table
  pub same_problem : matcher.problem ≡ problem
  pub same_table : matcher.table ≡ table
  pub same_room : matcher.room ≡ room
  pub places : room ≤ sensed.spare + length sensed.atoms
  pub actable : IsActable problem table remembered
  pub fitting : KernelObjectsFit problem table remembered

-- each mark of the kernel's row is true before, and after the kernel's step the atoms are what it leaves
abbrev pub IsKernelStepTaken : Problem → Table → KernelInstance → List Atom → List Atom → Type 0
IsKernelStepTaken problem table kernel before after =
    KernelRowHolds table kernel before
    × ((inst : OpInst) × (step_of_kernel table kernel ≡ Some inst) × (after ≡ result_of problem before inst))
