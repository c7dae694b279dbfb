-- The moves that a tree tells have few steps, which are instances of operators.
use Rattle.std.specs.Prelude.{◌≡◌, ◌++◌, ℕ, Option, None, Some, List, [], ◌∷◌, length, take, slice_get, slice_index_or, All}
use Rattle.std.proofs.Common.{◌≤◌, sym, ap, ◌∙◌, subst, arith}
use Rattle.std.proofs.lemmas.List.Elements.{All-cons, All-head, All-nil, All-weaker}
use Rattle.px_order.specs.Places.{at_index, contains_place, still_there}
use Rattle.px_order.specs.RunLaws.{made}
use Rattle.px_terms.specs.declared.instance.OpInst.{OpInst}
use Rattle.px_terms.specs.Validity.{IsInstanceOf}
use Rattle.px_table.specs.declared.entry.Entry.{Entry}
use Rattle.px_table.specs.declared.entry.Entry.TheVariants.{Op, Macro}
use Rattle.px_table.specs.declared.entry.Move.{Move}
use Rattle.px_table.specs.declared.entry.Move.TheVariants.{Apply, Push}
use Rattle.px_table.specs.declared.node.Node.{Node}
use Rattle.px_table.specs.Limits.{most_steps}
use Rattle.px_entries.proofs.RowSteps.{steps-count}
use Rattle.px_entries.specs.Entries.{IsEntry, effect_of, table_at}
use Rattle.px_entries.specs.Learned.{AreLearned}
use Rattle.px_ends.specs.ByValue.{order_by, space_of}
use Rattle.px_ends.specs.Ends.{AreMoves, node_of}
use Rattle.px_ends.specs.Moves.{CanMake, reached}
use Rattle.px_ends.specs.Tasks.{IsAllowed, Task, after, initial_node}
use Rattle.px_ends.specs.Trees.{IsTree, TellsMove, TellsOrigin, entry_told}
use Rattle.px_support.proofs.MacroTables.{macro-instances, macro-table}
use Rattle.px_search.proofs.GoingLaws.{entries_at}
use Rattle.px_search.proofs.TreeLaws.{within}
use Rattle.px_tree.specs.declared.nodes.MoveKind.{MoveKind}
use Rattle.px_tree.specs.declared.nodes.MoveKind.TheVariants as kinds
use Rattle.px_tree.specs.declared.nodes.Tree.{Tree}
use Rattle.px_tree.specs.declared.nodes.TreeMove.{TreeMove}
use Rattle.px_tree.specs.declared.nodes.TreeNode.{TreeNode}
use Rattle.px_tree.specs.declared.nodes.TreeOrigin.{TreeOrigin}
use Rattle.px_lengths.proofs.RunTexts.{IsSmallMove, IsSmallOrigin}
use Rattle.px_lengths.proofs.TableTexts.{IsNarrowStep}

module _ (task : Task) (learned : AreLearned task.problem task.tables)
    (narrow : (inst : OpInst) → IsInstanceOf task.problem inst → IsNarrowStep inst) where
  -- ---- the steps of an entry

  abbrev AreEntries : List Entry → Type 0
  AreEntries = All (IsEntry task.problem task.tables)

  effect-short : (entry : Entry) → IsEntry task.problem task.tables entry → length (effect_of task.tables entry) ≤ most_steps
  effect-short (Op inst) is = omega arith
  effect-short (Macro number prefix sigma) is =
      let m = macro-table task.problem task.tables learned number prefix sigma is in
      omega (arith, m.2, m.1.within, steps-count (table_at task.tables number) sigma prefix m.1.within)

  effect-own : (entry : Entry) → IsEntry task.problem task.tables entry → All (IsInstanceOf task.problem) (effect_of task.tables entry)
  effect-own (Op inst) is = All-cons (IsInstanceOf task.problem) inst [] is.of (All-nil (IsInstanceOf task.problem))
  effect-own (Macro number prefix sigma) is =
      let found = macro-table task.problem task.tables learned number prefix sigma is in
      macro-instances task.problem (table_at task.tables number) prefix sigma found.0 found.1

  small-entry : (kind : MoveKind) (entry : Entry) → IsEntry task.problem task.tables entry → IsSmallMove (entry_told task kind entry)
  small-entry kind entry is = record {
    few = effect-short entry is;
    narrow = All-weaker (IsInstanceOf task.problem) IsNarrowStep narrow (effect_of task.tables entry) (effect-own entry is);
  }

  -- ---- the moves

  last-allowed : (from : Node) (front : List Move) (m : Move) → CanMake (IsAllowed task) (after task) from (front ++ m ∷ [])
      → CanMake (IsAllowed task) (after task) from front × IsAllowed task (reached (IsAllowed task) (after task) from front) m
  last-allowed from [] m can = (tt, can.0)
  last-allowed from (k ∷ front) m can = let rest = last-allowed (after task from k) front m can.1 in ((can.0, rest.0), rest.1)

  small-move : (node : Node) (m : Move) (told : TreeMove) → AreEntries node.stack → IsAllowed task node m → TellsMove task node m told
      → IsSmallMove told
  small-move node (Push entry) told entries can is =
      subst IsSmallMove (sym is) (small-entry kinds.Push entry can.0.is_entry)
  small-move node Apply told entries can (entry, below, stack, is) =
      subst IsSmallMove (sym is)
      (small-entry kinds.Apply entry (All-head (IsEntry task.problem task.tables) entry below (subst AreEntries stack entries)))

  small-origin : (earlier : List (List Move)) (moves : List Move) (origin : Option TreeOrigin) → AreMoves task moves
      → TellsOrigin task earlier moves origin → IsSmallOrigin origin
  small-origin earlier moves None can is = tt
  small-origin earlier moves (Some origin) can (front, m, parts, stands, is) =
      let last = last-allowed (initial_node task) front m (subst (AreMoves task) parts can) in
      small-move (node_of task front) m origin.last (entries_at task front last.0) last.1 is

  module _ (weight : ℕ) (tree : Tree) (is : IsTree task weight tree) where
    lists-made : (place : ℕ) (moves : List Move) → slice_get is.found place ≡ Some moves → AreMoves task moves
    lists-made place moves at =
        let w = within task weight is.found tree.end is.end in
        made (space_of task) (order_by task weight) w.begins.1.0 w.all w.begins.0 w.begins.1.1 moves
        (contains_place w.all place moves
        (ap (λ (l : List (List Move)). slice_get l place) w.all_are ∙ still_there is.found w.rest place moves at))

    pub small-nodes : All (λ (node : TreeNode). IsSmallOrigin node.origin) tree.nodes
    small-nodes place other below =
        let node = slice_index_or tree.nodes place other in
        let moves = slice_index_or is.found place [] in
        let there = at_index is.found place [] (omega (arith, below, is.count)) in
        let told = is.nodes place node moves (at_index tree.nodes place other below) there in
        small-origin (take place is.found) moves node.origin (lists-made place moves there) told.origin
