-- What the executor does at each event (Fikes, Hart and Nilsson 1972).
use Rattle.std.specs.Prelude.{◌≡◌, ℕ, ◌+◌, ◌≤◌, Some, None, Option, List, [], ◌∷◌, length, Contains}
use Rattle.px_terms.specs.declared.atom.Atom.{Atom}
use Rattle.px_terms.specs.declared.instance.OpInst.{OpInst}
use Rattle.px_terms.specs.declared.problem.Problem.{Problem}
use Rattle.px_terms.specs.Operators.{result_of}
use Rattle.px_table.specs.declared.mark.Mark.{Mark}
use Rattle.px_table.specs.declared.table.Table.{Table}
use Rattle.px_table.specs.Kernels.{atom_under, steps_under}
use Rattle.px_table.specs.Marks.{step_at}
use Rattle.px_match.specs.Matching.{IsHighest, KernelInstance, NoKernelFits}
use Rattle.px_planex.specs.declared.event.Event.{Event}
use Rattle.px_planex.specs.declared.event.Event.TheVariants.{Disturb, Sense, Act}
use Rattle.px_planex.specs.declared.event.Outcome.{Outcome}
use Rattle.px_planex.specs.declared.event.Outcome.TheVariants.{Disturbed, Sensed, Acted, Slipped, Goal, NoKernel, NotSensed}

-- the kernel that the executor is to act by, if one is remembered, and the objects of the last kernel that it sensed
pub record Memory : Type 0 where
  pub remembered : Option KernelInstance
  pub instance : List ℕ

-- before anything is sensed
abbrev pub nothing_sensed : Memory
nothing_sensed = record { remembered = None; instance = [] }

-- the world's atoms, and what the executor remembers
pub record Running : Type 0 where
  pub atoms : List Atom
  pub memory : Memory

-- each mark of the row that has the kernel's number is true in the atoms
abbrev pub KernelRowHolds : Table → KernelInstance → List Atom → Type 0
KernelRowHolds table kernel atoms = (mark : Mark) → Contains table.marks mark → mark.row ≡ kernel.number
    → Contains atoms (atom_under kernel.objects mark.atom)

-- some mark of that row isn't true in the atoms
abbrev pub RowFails : Table → KernelInstance → List Atom → Type 0
RowFails table kernel atoms = (mark : Mark) × Contains table.marks mark × (mark.row ≡ kernel.number)
    × (¬ Contains atoms (atom_under kernel.objects mark.atom))

-- the step that has the kernel's number, and the one that is remembered
abbrev pub step_of_kernel : Table → KernelInstance → Option OpInst
step_of_kernel table kernel = step_at (steps_under table kernel.objects) kernel.number

abbrev pub remembered_step : Table → Memory → Option OpInst
remembered_step table memory = elim memory.remembered [ None ↦ None | Some kernel ↦ step_of_kernel table kernel ]

-- with these atoms, and no kernel remembered
abbrev pub forgetting : Running → List Atom → Running
forgetting old atoms = record { atoms = atoms; memory = record { remembered = None; instance = old.memory.instance } }

-- with the objects of the kernel that was sensed, and what is to be remembered of it
abbrev pub sensing : Running → Option KernelInstance → KernelInstance → Running
sensing old remembered kernel = record { atoms = old.atoms; memory = record { remembered = remembered; instance = kernel.objects } }

-- an executor of the table with this binding, in a world in which an edit leaves these atoms
module _ {E : Type 0} (leaves : E → List Atom → List Atom) (problem : Problem) (table : Table) (bound : List (ℕ × ℕ)) where
  -- the event may have this outcome, and lead from the one to the other; no other event has an outcome
  abbrev pub Happens : Running → Event E → Outcome → Running → Type 0
  Happens old (Disturb edit) Disturbed new = new ≡ record { atoms = leaves edit old.atoms; memory = old.memory }
  Happens old Sense NoKernel new = NoKernelFits problem table bound old.atoms × (new ≡ forgetting old old.atoms)
  Happens old Sense Goal new =
      (kernel : KernelInstance) × IsHighest problem table bound old.atoms kernel × (kernel.number ≡ length table.steps + 1)
      × (new ≡ sensing old None kernel)
  Happens old Sense (Sensed i) new =
      (kernel : KernelInstance) × IsHighest problem table bound old.atoms kernel × (kernel.number ≡ i) × (i ≤ length table.steps)
      × (new ≡ sensing old (Some kernel) kernel)
  Happens old Act NotSensed new = (old.memory.remembered ≡ None) × (new ≡ old)
  Happens old Act Slipped new =
      (kernel : KernelInstance) × (old.memory.remembered ≡ Some kernel) × RowFails table kernel old.atoms × (new ≡ forgetting old old.atoms)
  Happens old Act Acted new =
      (kernel : KernelInstance) × (old.memory.remembered ≡ Some kernel) × KernelRowHolds table kernel old.atoms
      × ((inst : OpInst) × (step_of_kernel table kernel ≡ Some inst) × (new ≡ forgetting old (result_of problem old.atoms inst)))
  Happens old event outcome new = ⊥

  -- these events may have these outcomes, one after the other
  abbrev pub Traces : Running → List (Event E) → List Outcome → Running → Type 0
  Traces old [] [] new = new ≡ old
  Traces old [] (outcome ∷ outcomes) new = ⊥
  Traces old (event ∷ events) [] new = ⊥
  Traces old (event ∷ events) (outcome ∷ outcomes) new = (mid : Running) × Happens old event outcome mid × Traces mid events outcomes new

-- what comes of a list of events is determined
abbrev pub TracesAreOne : {E : Type 0} → (E → List Atom → List Atom) → Type 0
TracesAreOne {E} leaves = (problem : Problem) (table : Table) (bound : List (ℕ × ℕ)) (old : Running) (events : List (Event E))
    (outcomes others : List Outcome) (new later : Running)
    → Traces leaves problem table bound old events outcomes new → Traces leaves problem table bound old events others later
    → (outcomes ≡ others) × (new ≡ later)
