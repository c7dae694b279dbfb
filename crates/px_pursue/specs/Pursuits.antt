-- Pursuit: plans are searched for and executed, until one leads to the goal or a search ends without a plan.
use Rattle.std.specs.Prelude.{◌≡◌, ℕ, ◌+◌, List, [], ◌++◌, length}
use Rattle.std.proofs.Common.{zero, suc}
use Rattle.px_terms.specs.declared.atom.Atom.{Atom}
use Rattle.px_terms.specs.declared.problem.Problem.{Problem}
use Rattle.px_table.specs.declared.entry.Move.{Move}
use Rattle.px_table.specs.declared.table.Table.{Table}
use Rattle.px_ends.specs.Made.{IsTableOfMoves}
use Rattle.px_ends.specs.Tasks.{task_of}
use Rattle.px_planex.specs.Execution.{Memory, nothing_sensed}
use Rattle.px_planex.specs.Executors.{running}
use Rattle.px_planex.specs.Turns.{AtGoal, AtNoKernel, Recorded, TakesTurns, TurnValue}
use Rattle.px_printer.specs.declared.pursue_end.PursueEnd.{PursueEnd}
use Rattle.px_printer.specs.declared.pursue_end.PursueEnd.TheVariants.{Goal}
use Rattle.px_turns.specs.Told.{EndsRun}
use Rattle.px_pursue.specs.Searches.{EndsWithoutPlan, FindsMoves}

-- To reach the goal by these learned tables, in a world in which an edit leaves these atoms, disturbed as recorded.
module _ {E : Type 0} (leaves : E → List Atom → List Atom) (problem : Problem) (tables : List Table) (goal : List Atom) (variable_count : ℕ)
    (recorded : List (Recorded E)) where
  -- A search from these atoms found moves. Their table was executed from these atoms in these turns, with nothing bound; the first of them
  -- has that number.
  pub record RunsPlan (number : ℕ) (atoms : List Atom) (run : List TurnValue) (after : List Atom) : Type 0 where
    pub moves : List Move
    pub found : FindsMoves (task_of problem tables atoms goal variable_count) moves
    pub plan : Table
    pub made : IsTableOfMoves (task_of problem tables atoms goal variable_count) moves plan
    pub memory : Memory
    pub takes : TakesTurns leaves problem plan [] recorded number (running atoms nothing_sensed) run (running after memory)

  -- So many plans were found and executed, one after the other, and each run ended with a sensing that found no kernel. The next search is
  -- from the atoms that were sensed there, and the numbers of the turns go on.
  abbrev pub RunsInVain : ℕ → ℕ → List Atom → List TurnValue → List Atom → Type 0
  RunsInVain zero number atoms turns after = (turns ≡ []) × (after ≡ atoms)
  RunsInVain (suc count) number atoms turns after =
      (run rest : List TurnValue) × ((mid : List Atom) × RunsPlan number atoms run mid × EndsRun AtNoKernel run × (turns ≡ run ++ rest)
      × RunsInVain count (number + length run) mid rest after)

  -- The last search: its plan led to the goal in these turns, or it ended without a plan, and there are no more turns.
  abbrev pub EndsBy : ℕ → List Atom → List TurnValue → PursueEnd → List Atom → Type 0
  EndsBy number atoms run Goal after = RunsPlan number atoms run after × EndsRun AtGoal run
  EndsBy number atoms run end after =
      EndsWithoutPlan (task_of problem tables atoms goal variable_count) end × (run ≡ []) × (after ≡ atoms)

  -- A pursuit from these atoms: how many searches it made, its turns from 1 on, its end, and the atoms after it. Each search but the last
  -- found a plan whose run ended with a sensing that found no kernel.
  pub record IsPursuit (atoms : List Atom) (searches : ℕ) (turns : List TurnValue) (end : PursueEnd) (after : List Atom) : Type 0 where
    pub in_vain : ℕ
    pub searches_are : searches ≡ suc in_vain
    pub before : List TurnValue
    pub last : List TurnValue
    pub turns_are : turns ≡ before ++ last
    pub mid : List Atom
    pub vain : RunsInVain in_vain 1 atoms before mid
    pub ends : EndsBy (length before + 1) mid last end after
