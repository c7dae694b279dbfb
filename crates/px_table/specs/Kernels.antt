-- Kernels of tables: what has to hold so that the steps from one on lead to the goal (Fikes, Hart and Nilsson 1972).
use Rattle.std.specs.Prelude.{◌≡◌, ◌↔◌, ℕ, ◌<◌, ◌≤◌, ◌+◌, ◌-◌, ◌&&◌, nat_le, nat_lt, Some, List, ◌++◌, length, map, filter, drop, All, Contains}
use Rattle.px_terms.specs.declared.atom.Atom.{Atom}
use Rattle.px_terms.specs.declared.instance.OpInst.{OpInst}
use Rattle.px_terms.specs.declared.problem.Problem.{Problem}
use Rattle.px_terms.specs.declared.term.Term.TheVariants.{Obj}
use Rattle.px_terms.specs.Operators.{precondition}
use Rattle.px_terms.specs.Order.{atom_eq}
use Rattle.px_terms.specs.Plans.{Carries}
use Rattle.px_terms.specs.States.{State, IsState, Holds, AxiomsHold}
use Rattle.px_terms.specs.Substitution.{substitute_atom, substitute_instance}
use Rattle.px_proof.specs.Derivation.{Derivation}
use Rattle.px_proof.specs.Substitution.{derivation_under}
use Rattle.px_table.specs.declared.mark.Mark.{Mark}
use Rattle.px_table.specs.declared.table.Table.{Table}
use Rattle.px_table.specs.Marks.{IsKept, step_at}
use Rattle.px_table.specs.Once.{each_once}
use Rattle.px_table.specs.Supports.{variables}
use Rattle.px_table.specs.Tables.{IsTable, rows_of}

-- the marks of row `i` and later whose column is before `i`
abbrev pub kernel_marks : Table → ℕ → List Mark
kernel_marks table i = filter (λ (mark : Mark). nat_le i mark.row && nat_lt mark.column i) table.marks

-- their atoms in order, each once
abbrev pub kernel_of : Table → ℕ → List Atom
kernel_of table i = each_once atom_eq (map (λ (mark : Mark). mark.atom) (kernel_marks table i))

-- one of the problem's objects for each parameter, whatever the sorts
pub record IsInstantiation (problem : Problem) (table : Table) (sigma : List ℕ) : Type 0 where
  pub count : length sigma ≡ table.params
  pub objects : All (λ n. n < problem.objects) sigma

-- an atom, a mark and an operator instance with the objects for the parameters
abbrev pub atom_under : List ℕ → Atom → Atom
atom_under sigma atom = substitute_atom (map Obj sigma) atom

abbrev pub mark_under : List ℕ → Mark → Mark
mark_under sigma mark = record { atom = atom_under sigma mark.atom; row = mark.row; column = mark.column; index = mark.index }

abbrev pub instance_under : List ℕ → OpInst → OpInst
instance_under sigma inst = substitute_instance (map Obj sigma) inst

-- the kernel, the steps and the goal with the objects for the parameters; the goal's own variables stay, numbered from 0
abbrev pub kernel_under : Table → List ℕ → ℕ → List Atom
kernel_under table sigma i = map (atom_under sigma) (kernel_of table i)

abbrev pub steps_under : Table → List ℕ → List OpInst
steps_under table sigma = map (instance_under sigma) table.steps

abbrev pub goal_under : Table → List ℕ → List Atom
goal_under table sigma = map (substitute_atom (map Obj sigma ++ variables table.goal_variable_count)) table.goal

-- the rows, with the objects in their proofs
abbrev pub rows_under : Table → List ℕ → List (List Derivation)
rows_under table sigma = map (map (derivation_under (map Obj sigma))) (rows_of table.proofs)

-- no step from `i` on deletes the instance of a mark whose column it comes after and whose row it comes before, whatever the sorts
abbrev pub IsProper : Problem → Table → List ℕ → ℕ → Type 0
IsProper problem table sigma i = All (λ mark. IsKept problem (steps_under table sigma) i (mark_under sigma mark)) table.marks

-- the instance of kernel `i` carries the steps from `i` on to the goal
abbrev pub TailCarries : Problem → Table → List ℕ → ℕ → Type 0
TailCarries problem table sigma i = Carries problem (kernel_under table sigma i) (drop (i - 1) (steps_under table sigma)) table.goal_variable_count
    (goal_under table sigma)

-- each proper instance of each kernel carries the steps that are left to the goal, whatever the sorts of its objects
pub record KernelsCarry (problem : Problem) (table : Table) : Type 0 where
  pub carry : (sigma : List ℕ) → IsInstantiation problem table sigma → (i : ℕ) → 1 ≤ i → i ≤ length table.steps + 1
      → IsProper problem table sigma i → TailCarries problem table sigma i

-- the atom is in kernel `i` exactly where some mark of row `i` or later, with column before `i`, has it
abbrev pub KernelsAreMarks : Type 0
KernelsAreMarks = (table : Table) (i : ℕ) (atom : Atom)
    → Contains (kernel_of table i) atom ↔ ((mark : Mark) × Contains table.marks mark × (mark.atom ≡ atom) × (i ≤ mark.row)
    × (mark.column < i))

-- Where the instances of all marks of a step's row hold in a state in which the axioms hold, so does the precondition of the step's
-- instance.
abbrev pub RowsMeetPreconditions : Type 0
RowsMeetPreconditions = (problem : Problem) (table : Table) (sigma : List ℕ) (row : ℕ) (inst : OpInst) (state : State)
    → IsTable problem table → IsInstantiation problem table sigma → step_at (steps_under table sigma) row ≡ Some inst → IsState state
    → AxiomsHold problem state
    → ((mark : Mark) → Contains table.marks mark → mark.row ≡ row → Holds state (atom_under sigma mark.atom))
    → All (Holds state) (precondition problem inst)
