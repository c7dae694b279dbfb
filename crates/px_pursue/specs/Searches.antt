-- The searches of a pursuit.
use Rattle.std.specs.Prelude.{◌≤◌, List, All}
use Rattle.px_terms.specs.Limits.{most_nodes}
use Rattle.px_terms.specs.Validity.{IsAtomOf, IsValid}
use Rattle.px_table.specs.declared.entry.Move.{Move}
use Rattle.px_entries.specs.Learned.{AreLearned}
use Rattle.px_ends.specs.ByValue.{IsExhausted, IsFound, IsNodeLimit, IsShapeLimit}
use Rattle.px_ends.specs.Tasks.{Task}
use Rattle.px_printer.specs.declared.pursue_end.PursueEnd.{PursueEnd}
use Rattle.px_printer.specs.declared.pursue_end.PursueEnd.TheVariants.{Goal, Exhausted, NodeLimit, ShapeLimit}

-- the problem is valid, no more nodes are kept than in any search, the goal is one of the problem, and the tables are like learned ones
pub record IsSearchable (task : Task) : Type 0 where
  pub valid : IsValid task.problem
  pub nodes : task.nodes ≤ most_nodes
  pub goal : All (IsAtomOf task.problem task.variable_count) task.goal
  pub learned : AreLearned task.problem task.tables

-- the search, with the problem's weight, finds these moves
abbrev pub FindsMoves : Task → List Move → Type 0
FindsMoves task moves = IsFound task task.problem.weight moves

-- the search ends like this, without a plan
abbrev pub EndsWithoutPlan : Task → PursueEnd → Type 0
EndsWithoutPlan task Goal = ⊥
EndsWithoutPlan task Exhausted = IsExhausted task task.problem.weight
EndsWithoutPlan task (NodeLimit nodes moves) = IsNodeLimit task task.problem.weight nodes moves
EndsWithoutPlan task (ShapeLimit node limit) = IsShapeLimit task task.problem.weight node limit
