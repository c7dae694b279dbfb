-- Which lists of learned tables entries may come from.
use Rattle.std.specs.Prelude.{◌≤◌, List, length, All}
use Rattle.px_table.specs.Limits.{most_steps, most_tables}
use Rattle.px_terms.specs.declared.problem.Problem.{Problem}
use Rattle.px_table.specs.declared.table.Table.{Table}
use Rattle.px_table.specs.Tables.{IsTable}

-- tables for the problem, no more of them than may be learned, and none longer
pub record AreLearned (problem : Problem) (tables : List Table) : Type 0 where
  pub few : length tables ≤ most_tables
  pub short : All (λ table. length table.steps ≤ most_steps) tables
  pub each : All (IsTable problem) tables
