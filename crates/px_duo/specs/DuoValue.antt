-- What contracts see of two executors in one world.
use Rattle.std.specs.Prelude.{◌≡◌, ℕ, []}
use Rattle.px_terms.specs.declared.problem.Problem.{Problem}
use Rattle.px_table.specs.declared.table.Table.{Table}
use Rattle.px_planex.specs.Execution.{Memory}
use Rattle.px_planex.specs.Executors.{PlanexValue}
use Rattle.px_duo.specs.Duos.{Pair}

-- the problem, the tables, the greatest number of atoms of a world, and what each of the two remembers
pub record DuoValue : Type 0 where
  pub problem : Problem
  pub tables : Pair Table
  pub room : ℕ
  pub memories : Pair Memory

-- both executors are of one problem and for worlds of one size, and in neither is anything bound
pub record ArePaired (first second : PlanexValue) : Type 0 where
  pub same_problem : second.problem ≡ first.problem
  pub same_room : second.room ≡ first.room
  pub first_unbound : first.bound ≡ []
  pub second_unbound : second.bound ≡ []
