-- The highest kernel whose instance holds (Fikes, Hart and Nilsson 1972).
use Rattle.std.specs.Prelude.{◌≡◌, ◌≢◌, ℕ, ◌≤◌, ◌+◌, ◌&&◌, not, nat_le, Some, None, Option, List, length, find, option_map, slice_get, All, Contains}
use Rattle.std.proofs.Common.{suc}
use Rattle.std.specs.Ordering.{nat_cmp}
use Rattle.std.specs.declared.cmp.Ordering.TheVariants.{Less}
use Rattle.std.specs.Cmp.Lexicographic.{slice_cmp}
use Rattle.px_terms.specs.declared.atom.Atom.{Atom}
use Rattle.px_terms.specs.declared.problem.Problem.{Problem}
use Rattle.px_table.specs.declared.table.Table.{Table}
use Rattle.px_table.specs.Kernels.{IsInstantiation, IsProper, kernel_under}
use Rattle.px_table.specs.WellSorted.{ParametersFit}

-- the objects extend the binding, whose pairs are a parameter, counted from 1, and its object
abbrev pub Extends : List (ℕ × ℕ) → List ℕ → Type 0
Extends bound objects = All (λ (pair : ℕ × ℕ). (k : ℕ) × (pair.0 ≡ suc k) × (slice_get objects k ≡ Some pair.1)) bound

-- the first bound parameter that isn't the table's; its parameters are counted from 1
abbrev pub first_bad : Table → List (ℕ × ℕ) → Option ℕ
first_bad table bound =
    option_map (λ (pair : ℕ × ℕ). pair.0) (find (λ (pair : ℕ × ℕ). not (nat_le 1 pair.0 && nat_le pair.0 table.params)) bound)

-- the objects fit the parameters, and make an instance of kernel `i` that is bound as asked, proper, and true in the atoms
pub record KernelFits (problem : Problem) (table : Table) (bound : List (ℕ × ℕ)) (atoms : List Atom)
    (i : ℕ) (objects : List ℕ) : Type 0 where
  pub from_one : 1 ≤ i
  pub to_goal : i ≤ length table.steps + 1
  pub instantiation : IsInstantiation problem table objects
  pub extends : Extends bound objects
  pub fitting : ParametersFit problem.object_sorts table objects
  pub proper : IsProper problem table objects i
  pub holds : All (Contains atoms) (kernel_under table objects i)

-- a kernel by its number, with an object for each parameter
pub record KernelInstance : Type 0 where
  pub number : ℕ
  pub objects : List ℕ

-- the highest kernel of which an instance fits, with the first objects, compared parameter by parameter
pub record IsHighest (problem : Problem) (table : Table) (bound : List (ℕ × ℕ)) (atoms : List Atom) (found : KernelInstance) : Type 0 where
  pub fits : KernelFits problem table bound atoms found.number found.objects
  pub highest : (j : ℕ) (others : List ℕ) → KernelFits problem table bound atoms j others → j ≤ found.number
  pub first : (others : List ℕ) → KernelFits problem table bound atoms found.number others → slice_cmp nat_cmp others found.objects ≢ Less

-- no instance of any kernel fits
abbrev pub NoKernelFits : Problem → Table → List (ℕ × ℕ) → List Atom → Type 0
NoKernelFits problem table bound atoms = (i : ℕ) (objects : List ℕ) → ¬ KernelFits problem table bound atoms i objects

-- what sensing finds in the atoms
abbrev pub IsSensed : Problem → Table → List (ℕ × ℕ) → List Atom → Option KernelInstance → Type 0
IsSensed problem table bound atoms None = NoKernelFits problem table bound atoms
IsSensed problem table bound atoms (Some found) = IsHighest problem table bound atoms found

-- sensing finds one thing
abbrev pub SensedIsOne : Type 0
SensedIsOne = (problem : Problem) (table : Table) (bound : List (ℕ × ℕ)) (atoms : List Atom) (one other : Option KernelInstance)
    → IsSensed problem table bound atoms one → IsSensed problem table bound atoms other → one ≡ other
