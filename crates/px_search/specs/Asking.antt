-- What trying the goal at a node says.
use Rattle.std.specs.Prelude.{◌≡◌, [], List}
use Rattle.px_terms.specs.declared.atom.Atom.{Atom}
use Rattle.px_terms.specs.declared.problem.Problem.{Problem}
use Rattle.px_proof.specs.declared.shape.Tick.{Tick}
use Rattle.px_table.specs.declared.node.Node.{Node}
use Rattle.px_gaps.specs.Questions.{IsMetLimit, MeetsLimit}
use Rattle.px_gaps.specs.declared.question.Obligation.{Obligation}
use Rattle.px_gaps.specs.declared.question.Question.TheVariants.{Proving}
use Rattle.px_gaps.specs.declared.known.Tried.{Tried}
use Rattle.px_gaps.specs.declared.known.Tried.TheVariants.{Answered, Unanswered, Limited}
use Rattle.px_ends.specs.Tasks.{Task, IsSolved, goal_from, goal_question}

-- proving it doesn't meet the limit
abbrev pub IsProvedBelow : Problem → Obligation → Type 0
IsProvedBelow problem needed = (formula : List Atom) (shapes : List (List Tick)) → ¬ MeetsLimit problem (Proving needed) formula shapes

-- what trying the goal at the node says
abbrev pub IsTriedAt : Task → Node → Tried → Type 0
IsTriedAt task node Answered = IsSolved task node × IsProvedBelow task.problem (goal_from task node.model)
IsTriedAt task node Unanswered = (¬ IsSolved task node) × (node.stack ≡ [] → IsProvedBelow task.problem (goal_from task node.model))
IsTriedAt task node (Limited limit) = (node.stack ≡ []) × (limit.question ≡ goal_question task node) × IsMetLimit task.problem limit
