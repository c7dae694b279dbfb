-- What is known of a plan that was sought, as the code has it. No public clause cites this file.
use Rattle.std.specs.Prelude.{◌≡◌, ◌≤◌, ◌<◌, ◌+◌, ◌++◌, ℕ, Bool, MatchBool, Option, Some, None, List, length, map}
use Rattle.px_terms.specs.Limits.{most_formula_variables}
use Rattle.px_terms.specs.declared.atom.Atom.{Atom}
use Rattle.px_terms.specs.declared.problem.Problem.{Problem}
use Rattle.px_table.specs.declared.entry.Move.{Move}
use Rattle.px_table.specs.declared.table.Table.{Table}
use Rattle.px_table.specs.Tables.{IsTable}
use Rattle.px_ends.specs.Made.{IsTableOfMoves}
use Rattle.px_ends.specs.Tasks.{Task, task_of}
use Rattle.px_planex.specs.Turns.{AtGoal, AtNoKernel, Recorded, TurnValue}
use Rattle.px_printer.specs.declared.pursue_end.PursueEnd.{PursueEnd}
use Rattle.px_printer.specs.declared.turn.Turn.{Turn}
use Rattle.px_turns.specs.Told.{EndsRun, turn_told}
use Rattle.px_pursue.specs.Pursuits.{EndsBy, RunsPlan}
use Rattle.px_pursue.specs.declared.aim.Aim.{Aim}
use Rattle.px_pursue.specs.declared.seeking.Sought.{Sought}
use Rattle.px_pursue.specs.declared.seeking.Sought.TheVariants.{Plan, WithoutPlan}
use Rattle.px_pursue.specs.Searches.{EndsWithoutPlan, FindsMoves, IsSearchable}

-- to reach what is aimed at, from these atoms
abbrev pub task_from : Aim → List Atom → Task
task_from aim atoms = task_of aim.problem.now aim.tables.now atoms aim.goal.now aim.variable_count

-- what may be aimed at
pub record IsAim (aim : Aim) : Type 0 where
  pub searchable : (atoms : List Atom) → IsSearchable (task_from aim atoms)
  pub few_variables : aim.variable_count ≤ most_formula_variables
  pub some_object : 0 < aim.variable_count → 0 < aim.problem.now.objects

-- the search found moves, of which this is the table; or it ended like this
abbrev pub IsSought : Task → Sought → Type 0
IsSought task (Plan table) = (moves : List Move) × FindsMoves task moves × IsTableOfMoves task moves table × IsTable task.problem table
IsSought task (WithoutPlan end) = EndsWithoutPlan task end

-- the last of the turns is at the goal, or found no kernel
abbrev pub EndsPlanRun : Bool → List TurnValue → Type 0
EndsPlanRun at_goal turns = MatchBool at_goal (EndsRun AtGoal turns) (EndsRun AtNoKernel turns)

-- One search of a pursuit, from these atoms on, and the run of the plan that it found: the turns come after those before. The run ended
-- where no kernel fitted, or the pursuit ended like this.
abbrev pub SearchesOnce : {E : Type 0} → (E → List Atom → List Atom) → Problem → List Table → List Atom → ℕ → List (Recorded E)
    → List Turn → List Atom → List Turn → Option PursueEnd → List Atom → Type 0
SearchesOnce leaves problem tables goal variable_count recorded before atoms turns None after =
    (run : List Turn) × (turns ≡ before ++ run)
    × RunsPlan leaves problem tables goal variable_count recorded (length before + 1) atoms (map turn_told run) after
    × EndsRun AtNoKernel (map turn_told run)
SearchesOnce leaves problem tables goal variable_count recorded before atoms turns (Some end) after =
    (run : List Turn) × (turns ≡ before ++ run)
    × EndsBy leaves problem tables goal variable_count recorded (length before + 1) atoms (map turn_told run) end after
