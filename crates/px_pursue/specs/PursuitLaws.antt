-- What follows of a pursuit. In each law the problem is valid, the goal is one of the problem, and the tables are like learned ones.
use Rattle.std.specs.Prelude.{◌≡◌, ◌⊎◌, ℕ, ◌+◌, ◌*◌, ◌≤◌, List, [], length}
use Rattle.px_terms.specs.declared.atom.Atom.{Atom}
use Rattle.px_terms.specs.declared.problem.Problem.{Problem}
use Rattle.px_terms.specs.Plans.{Carries}
use Rattle.px_table.specs.declared.entry.Move.{Move}
use Rattle.px_table.specs.declared.node.Node.{Node}
use Rattle.px_table.specs.declared.table.Table.{Table}
use Rattle.px_gaps.specs.declared.question.MetLimit.{MetLimit}
use Rattle.px_ends.specs.Made.{IsTableOfMoves}
use Rattle.px_ends.specs.Tasks.{Task, steps_of, task_of}
use Rattle.px_match.specs.Matching.{KernelFits}
use Rattle.px_planex.specs.Turns.{Recorded, TurnValue}
use Rattle.px_printer.specs.declared.pursue_end.PursueEnd.{PursueEnd}
use Rattle.px_printer.specs.declared.pursue_end.PursueEnd.TheVariants.{Goal, ShapeLimit}
use Rattle.px_pursue.specs.Pursuits.{IsPursuit, RunsInVain}
use Rattle.px_pursue.specs.Searches.{FindsMoves, IsSearchable}

-- the first kernel of the table of the moves that a search found fits the atoms from which they were found
abbrev pub PlansFit : Type 0
PlansFit = (task : Task) (moves : List Move) (plan : Table) → IsSearchable task → FindsMoves task moves → IsTableOfMoves task moves plan
    → KernelFits task.problem plan [] task.initial 1 []

module _ {E : Type 0} (leaves : E → List Atom → List Atom) where
  -- a run that ends where no kernel fits was disturbed: so as many are in vain, at most, as disturbances are recorded
  abbrev pub VainRunsAreFew : Type 0
  VainRunsAreFew = (problem : Problem) (tables : List Table) (goal : List Atom) (variable_count : ℕ) (recorded : List (Recorded E))
      (count : ℕ) (atoms after : List Atom) (turns : List TurnValue) → IsSearchable (task_of problem tables atoms goal variable_count)
      → RunsInVain leaves problem tables goal variable_count recorded count 1 atoms turns after → count ≤ length recorded

  -- with D recorded disturbances a pursuit makes at most D + 1 searches
  abbrev pub SearchesAreFew : Type 0
  SearchesAreFew = (problem : Problem) (tables : List Table) (goal : List Atom) (variable_count : ℕ) (recorded : List (Recorded E))
      (atoms after : List Atom) (searches : ℕ) (turns : List TurnValue) (end : PursueEnd)
      → IsSearchable (task_of problem tables atoms goal variable_count)
      → IsPursuit leaves problem tables goal variable_count recorded atoms searches turns end after → searches ≤ length recorded + 1

  -- Where no plan that one of its searches finds has more than n steps, a pursuit with D recorded disturbances has at most
  -- (2 * D + 1) * (n + 1) turns.
  abbrev pub PursuitsAreShort : Type 0
  PursuitsAreShort = (problem : Problem) (tables : List Table) (goal : List Atom) (variable_count : ℕ) (recorded : List (Recorded E))
      (atoms after : List Atom) (searches : ℕ) (turns : List TurnValue) (end : PursueEnd) (n : ℕ)
      → IsSearchable (task_of problem tables atoms goal variable_count)
      → ((count : ℕ) (before : List TurnValue) (from : List Atom) (moves : List Move)
      → RunsInVain leaves problem tables goal variable_count recorded count 1 atoms before from
      → FindsMoves (task_of problem tables from goal variable_count) moves
      → length (steps_of tables [] moves) ≤ n)
      → IsPursuit leaves problem tables goal variable_count recorded atoms searches turns end after
      → length turns ≤ (2 * length recorded + 1) * (n + 1)

  -- where a pursuit ends in the goal, the goal holds in each state in which the axioms and the world's atoms hold: no step is left
  abbrev pub GoalsAreReached : Type 0
  GoalsAreReached = (problem : Problem) (tables : List Table) (goal : List Atom) (variable_count : ℕ) (recorded : List (Recorded E))
      (atoms after : List Atom) (searches : ℕ) (turns : List TurnValue) → IsSearchable (task_of problem tables atoms goal variable_count)
      → IsPursuit leaves problem tables goal variable_count recorded atoms searches turns Goal after
      → Carries problem after [] variable_count goal

-- the same end, apart from the question at which a search met the limit of shapes
pub record AreLimitEnds (one other : PursueEnd) : Type 0 where
  pub node : Node
  pub also_node : Node
  pub limit : MetLimit
  pub also_limit : MetLimit
  pub one_is : one ≡ ShapeLimit node limit
  pub other_is : other ≡ ShapeLimit also_node also_limit
  pub as_many : length limit.shapes ≡ length also_limit.shapes

abbrev pub AreSameEnds : PursueEnd → PursueEnd → Type 0
AreSameEnds one other = (one ≡ other) ⊎ AreLimitEnds one other

-- a pursuit is determined
abbrev pub PursuitsAreOne : {E : Type 0} → (E → List Atom → List Atom) → Type 0
PursuitsAreOne {E} leaves = (problem : Problem) (tables : List Table) (goal : List Atom) (variable_count : ℕ) (recorded : List (Recorded E))
    (atoms after later : List Atom) (searches others : ℕ) (turns more : List TurnValue) (end also : PursueEnd)
    → IsPursuit leaves problem tables goal variable_count recorded atoms searches turns end after
    → IsPursuit leaves problem tables goal variable_count recorded atoms others more also later
    → (searches ≡ others) × (turns ≡ more) × AreSameEnds end also × (after ≡ later)
