-- What a tree tells of the search.
use Rattle.std.specs.Prelude.{◌≡◌, ◌<◌, ◌≤◌, ℕ, Option, None, Some, List, [], ◌∷◌, ◌++◌, length, take, slice_get, slice_index_or}
use Rattle.std.proofs.Common.{refl, sym, ap, ◌∙◌, subst, arith, inl, inr}
use Rattle.std.proofs.lemmas.List.{length-append, length-take-le}
use Rattle.px_table.specs.declared.entry.Move.{Move}
use Rattle.px_table.specs.declared.node.Node.{Node}
use Rattle.px_gaps.specs.declared.question.MetLimit.{MetLimit}
use Rattle.px_gaps.specs.declared.question.Question.{Question}
use Rattle.px_order.specs.Places.{at_index, place-within-list}
use Rattle.px_ends.proofs.Exclusion.{limit-count}
use Rattle.px_ends.specs.ByValue.{IsShapeLimit}
use Rattle.px_ends.specs.Tasks.{Task, task_of, task_with}
use Rattle.px_ends.specs.Trees.{EndsTree, IsAskedAmong, IsTree, TellsOrigin}
use Rattle.px_search.proofs.TreeLaws.{one-end}
use Rattle.px_printer.specs.declared.reply.Reply.{Reply}
use Rattle.px_printer.specs.declared.reply.Reply.TheVariants as reply
use Rattle.px_tree.specs.declared.nodes.Tree.{Tree}
use Rattle.px_tree.specs.declared.nodes.TreeEnd.{TreeEnd}
use Rattle.px_tree.specs.declared.nodes.TreeEnd.TheVariants.{Solved, Exhausted, More, ShapeLimit}
use Rattle.px_tree.specs.declared.nodes.TreeNode.{TreeNode}
use Rattle.px_tree.specs.declared.nodes.TreeOrigin.{TreeOrigin}
use Rattle.px_session.specs.Lawful.{TellsSearch}
use Rattle.px_session.specs.Sessions.{SessionState}
use Rattle.px_session.specs.ToldTrees.{ComesFromBefore, EndsAsPlanned, ToldTrees}

module _ (task : Task) (weight : ℕ) where
  -- ---- the nodes

  -- as many lists are found as there is room for, when the question is asked
  asked-few : (found : List (List Move)) (moves : List Move) (question : Question) → IsAskedAmong task weight found moves question
      → length found ≤ task.nodes
  asked-few found moves question (inl (gone, same, asks)) = omega (arith, gone.room, ap length same)
  asked-few found moves question (inr (tested, same, empty, is)) =
      omega (arith, tested.room, ap length same, length-append tested.earlier (moves ∷ []))

  found-few : (found : List (List Move)) (end : TreeEnd) → EndsTree task weight found end → length found ≤ task.nodes
  found-few found Solved (moves, end, is) = omega (arith, end.room, ap length is, length-append end.earlier (moves ∷ []))
  found-few found Exhausted (end, is) = omega (arith, end.room, ap length is)
  found-few found (More count) end = omega (arith, end.full)
  found-few found (ShapeLimit number) (limit, first, is) = asked-few found first.moves limit.question first.asked

  nodes-few : (tree : Tree) → IsTree task weight tree → length tree.nodes ≤ task.nodes
  nodes-few tree is = let few = found-few is.found tree.end is.end in omega (arith, few, is.count)

  before : (found : List (List Move)) (place : ℕ) → place ≤ length found → (moves : List Move) (origin : Option TreeOrigin)
      → TellsOrigin task (take place found) moves origin → ComesFromBefore place origin
  before found place below moves None is = tt
  before found place below moves (Some origin) (prefix, m, parts, stands, tells) =
      let inside = place-within-list (take place found) origin.parent prefix stands in
      omega (arith, inside, length-take-le place found below)

  from-before : (tree : Tree) → IsTree task weight tree → (place : ℕ) (node : TreeNode) → slice_get tree.nodes place ≡ Some node
      → ComesFromBefore place node.origin
  from-before tree is place node at =
      let moves = slice_index_or is.found place [] in
      let below : place < length is.found = omega (arith, place-within-list tree.nodes place node at, is.count) in
      let there = at_index is.found place [] below in
      before is.found place (omega (arith, below)) moves node.origin (is.nodes place node moves at there).origin

  -- ---- the end

  -- where a question meets the limit of shapes, the tree ends there
  limited : (found : List (List Move)) (end : TreeEnd) → EndsTree task weight found end → (node : Node) (limit : MetLimit)
      → IsShapeLimit task weight node limit → (given : ℕ) → EndsAsPlanned end (reply.ShapeLimit given node limit)
  limited found Solved (moves, end, is) node limit s given =
      absurd (end.unlimited s.moves limit.question s.asked (limit.formula, limit.shapes, s.met))
  limited found Exhausted (end, is) node limit s given =
      absurd (end.unlimited s.moves limit.question s.asked (limit.formula, limit.shapes, s.met))
  limited found (More count) end node limit s given =
      absurd (end.unlimited s.moves limit.question s.asked (limit.formula, limit.shapes, s.met))
  limited found (ShapeLimit number) (met, first, is) node limit s given =
      is ∙ limit-count task.problem met.question met.formula met.shapes first.met
      ∙ sym (limit-count task.problem limit.question limit.formula limit.shapes s.met)

  -- two searches for one task end alike
  alike : (found lists : List (List Move)) (end other : TreeEnd) (answer : Reply) → EndsTree task weight found end
      → EndsTree task weight lists other → EndsAsPlanned other answer → EndsAsPlanned end answer
  alike found lists end other answer ends others planned =
      subst (λ (e : TreeEnd). EndsAsPlanned e answer) (sym (one-end task weight found lists end other ends others).1) planned

module _ (task : Task) (name : ℕ) (old : SessionState) (tree : Tree) (is : IsTree task task.problem.weight tree) where
  as-planned : (answer : Reply) (later : SessionState) → TellsSearch task name old answer later → EndsAsPlanned tree.end answer
  as-planned (reply.Plan given count steps) later tells =
      alike task task.problem.weight is.found (tells.1.found.earlier ++ tells.1.moves ∷ []) tree.end Solved (reply.Plan given count steps)
      is.end (tells.1.moves, tells.1.found, refl) tt
  as-planned (reply.Exhausted given) later tells =
      alike task task.problem.weight is.found tells.1.lists tree.end Exhausted (reply.Exhausted given) is.end (tells.1, refl) tt
  as-planned (reply.NodeLimit given nodes moves) later tells =
      alike task task.problem.weight is.found tells.1.earlier tree.end (More moves) (reply.NodeLimit given nodes moves) is.end tells.1.limit
      refl
  as-planned (reply.ShapeLimit given node limit) later tells =
      limited task task.problem.weight is.found tree.end is.end node limit tells.1 given
  as-planned answer later tells = absurd tells

pub told_trees : ToldTrees
told_trees = record {
  few = λ problem old name given nodes goal variable_count tables tree new is.
      nodes-few (task_with problem nodes old.learned.tables old.atoms goal variable_count) problem.weight tree is.2;
  upward = λ problem old name given nodes goal variable_count tables tree new place node is at.
      from-before (task_with problem nodes old.learned.tables old.atoms goal variable_count) problem.weight tree is.2 place node at;
  planned = λ problem old name other given goal variable_count tables tree answer new later is plan.
      as-planned (task_of problem old.learned.tables old.atoms goal variable_count) other old tree is.2 answer later plan;
}
