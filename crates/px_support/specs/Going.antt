-- How far the code has gone through the moves, and what a move adds to that.
use Rattle.std.specs.Prelude.{◌≡◌, ◌≤◌, ◌+◌, ◌*◌, List, [], ◌∷◌, ◌++◌, All, length, reverse}
use Rattle.px_table.specs.Limits.{most_steps}
use Rattle.px_base.specs.Bounds.{u32_max}
use Rattle.px_terms.specs.declared.instance.OpInst.{OpInst}
use Rattle.px_terms.specs.declared.problem.Problem.{Problem}
use Rattle.px_terms.specs.Operators.{results_of}
use Rattle.px_terms.specs.Validity.{IsGroundInstanceOf}
use Rattle.px_proof.specs.Derivation.{Derivation}
use Rattle.px_table.specs.declared.entry.Entry.{Entry}
use Rattle.px_table.specs.declared.entry.Move.{Move}
use Rattle.px_table.specs.declared.entry.Move.TheVariants.{Apply, Push}
use Rattle.px_table.specs.declared.node.Node.{Node}
use Rattle.px_table.specs.declared.table.Table.{Table}
use Rattle.px_table.specs.Tables.{rows_of}
use Rattle.px_entries.specs.Entries.{effect_of}
use Rattle.px_ends.specs.Made.{EntryRows, IsFirstRow, MovesRows, TopRows, top_steps}
use Rattle.px_ends.specs.Tasks.{Task, after, goal_from, initial_node, steps_of}
use Rattle.px_support.specs.declared.walk.Walk.{Walk}
use Rattle.px_support.specs.Asking.{IsFindable}

-- the steps that are taken have objects for arguments, and there are numbers for the columns of those that one entry more makes
pub record HasRoom (problem : Problem) (walk : Walk) : Type 0 where
  pub all_ground : All (IsGroundInstanceOf problem) walk.steps.items
  pub short : length walk.steps.items + most_steps ≤ u32_max

-- the node that is reached; the code has the top entry last
abbrev pub node_in : Walk → Node
node_in walk = record { model = walk.model.atoms; stack = reverse walk.stack.items }

-- the entry is applied: its steps are taken, and their rows are appended
pub record IsEntryApplied (problem : Problem) (tables : List Table) (entry : Entry) (old new : Walk) : Type 0 where
  pub model : new.model.atoms ≡ results_of problem old.model.atoms (effect_of tables entry)
  pub stack : new.stack.items ≡ old.stack.items
  pub steps : new.steps.items ≡ old.steps.items ++ effect_of tables entry
  pub first : List (List Derivation)
  pub made : EntryRows problem tables old.model.atoms old.steps.items entry first
  pub rows : rows_of new.rows.items ≡ rows_of old.rows.items ++ first

-- the steps that a move takes, and their rows after the steps made
abbrev pub steps_by : Task → Node → Move → List OpInst
steps_by task node Apply = top_steps task.tables node.stack
steps_by task node (Push entry) = []

abbrev pub RowsBy : Task → Node → List OpInst → Move → List (List Derivation) → Type 0
RowsBy task node made Apply rows = TopRows task.problem task.tables node.model made node.stack rows
RowsBy task node made (Push entry) rows = rows ≡ []

-- the move is taken
pub record IsMoveTaken (task : Task) (m : Move) (old new : Walk) : Type 0 where
  pub node : node_in new ≡ after task (node_in old) m
  pub steps : new.steps.items ≡ old.steps.items ++ steps_by task (node_in old) m
  pub first : List (List Derivation)
  pub made : RowsBy task (node_in old) old.steps.items m first
  pub rows : rows_of new.rows.items ≡ rows_of old.rows.items ++ first

-- all moves are taken: the goal's row is all that is left
pub record AreMovesTaken (task : Task) (moves : List Move) (walk : Walk) : Type 0 where
  pub goal : IsFindable task.problem (goal_from task walk.model.atoms)
  pub steps : walk.steps.items ≡ steps_of task.tables [] moves
  pub rows : (row : List Derivation) → IsFirstRow task.problem walk.steps.items walk.model.atoms task.goal task.variable_count row
      → MovesRows task (initial_node task) [] moves (rows_of walk.rows.items ++ row ∷ [])
  pub all_ground : All (IsGroundInstanceOf task.problem) walk.steps.items
  pub short : length walk.steps.items ≤ most_steps * length moves
