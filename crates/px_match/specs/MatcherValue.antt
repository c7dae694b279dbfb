-- What contracts see of a matcher.
use Rattle.std.specs.Prelude.{ℕ, List}
use Rattle.px_terms.specs.declared.problem.Problem.{Problem}
use Rattle.px_table.specs.declared.table.Table.{Table}
use Rattle.px_match.specs.Matching.{KernelInstance}

-- the problem, the table, the binding, the number of atoms for which there is room, and the objects of the last kernel that was found
pub record MatcherValue : Type 0 where
  pub problem : Problem
  pub table : Table
  pub bound : List (ℕ × ℕ)
  pub room : ℕ
  pub instance : List ℕ

-- the kernel of that number with these objects
abbrev pub kernel_with : List ℕ → ℕ → KernelInstance
kernel_with objects number = record { number = number; objects = objects }
