-- What a search is asked, as the code has it, and what has to be found by the prover on the way.
use Rattle.std.specs.Prelude.{◌≢◌, ◌<◌, ◌≤◌, List, [], ◌∷◌, All}
use Rattle.px_terms.specs.Limits.{most_formula_variables, most_nodes}
use Rattle.px_terms.specs.declared.problem.Problem.{Problem}
use Rattle.px_terms.specs.Validity.{IsValid, IsAtomOf}
use Rattle.px_proof.specs.declared.shape.Tick.{Tick}
use Rattle.px_question.specs.Limits.{IsLimited}
use Rattle.px_question.specs.Settings.{setting_of}
use Rattle.px_table.specs.declared.entry.Move.{Move}
use Rattle.px_table.specs.declared.entry.Move.TheVariants.{Apply, Push}
use Rattle.px_table.specs.declared.node.Node.{Node}
use Rattle.px_entries.specs.Entries.{IsEntry}
use Rattle.px_gaps.specs.Needs.{HasAnswer}
use Rattle.px_gaps.specs.declared.question.Obligation.{Obligation}
use Rattle.px_entries.specs.Learned.{AreLearned}
use Rattle.px_ends.specs.Tasks.{Task, after, goal_from, needs_at, task_with}
use Rattle.px_support.specs.declared.asked.Asked.{Asked}

abbrev pub task_for : Asked → Task
task_for asked = task_with asked.problem.now asked.nodes asked.tables.now asked.initial.now.atoms asked.goal.now asked.variable_count

-- what may be asked
pub record IsAskable (asked : Asked) : Type 0 where
  pub valid : IsValid asked.problem.now
  pub nodes : (1 ≤ asked.nodes) × (asked.nodes ≤ most_nodes)
  pub tables : AreLearned asked.problem.now asked.tables.now
  pub goal : All (IsAtomOf asked.problem.now asked.variable_count) asked.goal.now
  pub few_variables : asked.variable_count ≤ most_formula_variables
  pub some_object : 0 < asked.variable_count → 0 < asked.problem.now.objects

-- the prover finds what is needed: there is an answer, and the limit of shapes isn't met before the first one
pub record IsFindable (problem : Problem) (needed : Obligation) : Type 0 where
  pub answer : HasAnswer problem needed
  pub below : (shapes : List (List Tick)) → ¬ IsLimited (setting_of problem needed.facts) needed.formula needed.variable_count shapes

-- the pushed entry is one; what the applied entry needs is found
abbrev pub IsTakeable : Task → Node → Move → Type 0
IsTakeable task node Apply = (node.stack ≢ []) × All (IsFindable task.problem) (needs_at task node)
IsTakeable task node (Push entry) = IsEntry task.problem task.tables entry

-- each move can be taken in turn, and the goal is found after the last
abbrev pub AreTakeable : Task → Node → List Move → Type 0
AreTakeable task node [] = IsFindable task.problem (goal_from task node.model)
AreTakeable task node (m ∷ moves) = IsTakeable task node m × AreTakeable task (after task node m) moves
