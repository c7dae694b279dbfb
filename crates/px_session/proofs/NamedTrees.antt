-- What a tree says of moves has its names: the table of each entry is one of the session's, and its steps are of the problem.
use Rattle.std.specs.Prelude.{◌≡◌, ◌++◌, ℕ, Option, None, Some, List, [], ◌∷◌, length, take, slice_get, slice_index_or, All}
use Rattle.std.proofs.Common.{sym, ap, ◌∙◌, subst, arith}
use Rattle.std.proofs.lemmas.List.Elements.{All-cons, All-head, All-nil, All-weaker}
use Rattle.px_names.specs.Lists.{NameLists}
use Rattle.px_order.specs.Places.{at_index, contains_place, place-within-list, still_there}
use Rattle.px_order.specs.RunLaws.{made}
use Rattle.px_terms.specs.Validity.{IsInstanceOf}
use Rattle.px_table.specs.declared.entry.Entry.{Entry}
use Rattle.px_table.specs.declared.entry.Entry.TheVariants.{Op, Macro}
use Rattle.px_table.specs.declared.entry.Move.{Move}
use Rattle.px_table.specs.declared.entry.Move.TheVariants.{Apply, Push}
use Rattle.px_table.specs.declared.node.Node.{Node}
use Rattle.px_entries.specs.Entries.{IsEntry, effect_of, table_at}
use Rattle.px_entries.specs.Learned.{AreLearned}
use Rattle.px_ends.specs.ByValue.{order_by, space_of}
use Rattle.px_ends.specs.Ends.{AreMoves, node_of}
use Rattle.px_ends.specs.Moves.{CanMake, reached}
use Rattle.px_ends.specs.Tasks.{IsAllowed, Task, after, initial_node}
use Rattle.px_ends.specs.Trees.{IsTree, TellsMove, TellsOrigin, entry_told, table_in}
use Rattle.px_support.proofs.MacroTables.{macro-instances, macro-table}
use Rattle.px_search.proofs.GoingLaws.{entries_at}
use Rattle.px_search.proofs.TreeLaws.{within}
use Rattle.px_tree.specs.declared.nodes.MoveKind.{MoveKind}
use Rattle.px_tree.specs.declared.nodes.MoveKind.TheVariants as kinds
use Rattle.px_tree.specs.declared.nodes.Tree.{Tree}
use Rattle.px_tree.specs.declared.nodes.TreeMove.{TreeMove}
use Rattle.px_tree.specs.declared.nodes.TreeNode.{TreeNode}
use Rattle.px_tree.specs.declared.nodes.TreeOrigin.{TreeOrigin}
use Rattle.px_printer.specs.Texts.{IsNamedInstance}
use Rattle.px_printer.specs.Trees.{IsNamedMove, IsNamedNode, IsNamedOrigin, IsPlaceIn}
use Rattle.px_session.specs.Named.{AreNamesOfProblem}
use Rattle.px_session.proofs.NamedTerms.{named-step-of}

-- ---- the moves of a tree are of entries

module _ (task : Task) where
  -- the move tells an entry, and what is done with it
  record TellsEntry (told : TreeMove) : Type 0 where
    pub kind : MoveKind
    pub entry : Entry
    pub is_entry : IsEntry task.problem task.tables entry
    pub told_is : told ≡ entry_told task kind entry

  abbrev OriginTells : Option TreeOrigin → Type 0
  OriginTells None = Unit {0}
  OriginTells (Some origin) = TellsEntry origin.last

  -- the moves before the last can be made, and the last is allowed where they lead
  last-allowed : (from : Node) (front : List Move) (m : Move) → CanMake (IsAllowed task) (after task) from (front ++ m ∷ [])
      → CanMake (IsAllowed task) (after task) from front × IsAllowed task (reached (IsAllowed task) (after task) from front) m
  last-allowed from [] m can = (tt, can.0)
  last-allowed from (k ∷ front) m can = let rest = last-allowed (after task from k) front m can.1 in ((can.0, rest.0), rest.1)

  move-tells : (node : Node) (m : Move) (told : TreeMove) → All (IsEntry task.problem task.tables) node.stack → IsAllowed task node m
      → TellsMove task node m told → TellsEntry told
  move-tells node (Push entry) told entries can is =
      record { kind = kinds.Push; entry = entry; is_entry = can.0.is_entry; told_is = is }
  move-tells node Apply told entries can (entry, below, stack, is) = record {
    kind = kinds.Apply;
    entry = entry;
    is_entry = All-head (IsEntry task.problem task.tables) entry below (subst (All (IsEntry task.problem task.tables)) stack entries);
    told_is = is;
  }

  origin-tells : (earlier : List (List Move)) (moves : List Move) (origin : Option TreeOrigin) → AreMoves task moves
      → TellsOrigin task earlier moves origin → OriginTells origin
  origin-tells earlier moves None can is = tt
  origin-tells earlier moves (Some origin) can (front, m, parts, stands, is) =
      let last = last-allowed (initial_node task) front m (subst (AreMoves task) parts can) in
      move-tells (node_of task front) m origin.last (entries_at task front last.0) last.1 is

  module _ (weight : ℕ) (tree : Tree) (is : IsTree task weight tree) where
    -- the moves of each list that is found can be made
    lists-made : (place : ℕ) (moves : List Move) → slice_get is.found place ≡ Some moves → AreMoves task moves
    lists-made place moves at =
        let w = within task weight is.found tree.end is.end in
        made (space_of task) (order_by task weight) w.begins.1.0 w.all w.begins.0 w.begins.1.1 moves
        (contains_place w.all place moves
        (ap (λ (l : List (List Move)). slice_get l place) w.all_are ∙ still_there is.found w.rest place moves at))

    nodes-tell : All (λ (node : TreeNode). OriginTells node.origin) tree.nodes
    nodes-tell place other below =
        let node = slice_index_or tree.nodes place other in
        let moves = slice_index_or is.found place [] in
        let there = at_index is.found place [] (omega (arith, below, is.count)) in
        let told = is.nodes place node moves (at_index tree.nodes place other below) there in
        origin-tells (take place is.found) moves node.origin (lists-made place moves there) told.origin

-- ---- their names

module _ (task : Task) (names : NameLists) (all : AreNamesOfProblem task.problem names) (learned : AreLearned task.problem task.tables)
    (tables : List ℕ) (each : length tables ≡ length task.tables) where
  -- the steps that an entry takes are instances of operators
  entry-steps : (entry : Entry) → IsEntry task.problem task.tables entry → All (IsInstanceOf task.problem) (effect_of task.tables entry)
  entry-steps (Op inst) is = All-cons (IsInstanceOf task.problem) inst [] is.of (All-nil (IsInstanceOf task.problem))
  entry-steps (Macro number prefix sigma) is =
      let found = macro-table task.problem task.tables learned number prefix sigma is in
      macro-instances task.problem (table_at task.tables number) prefix sigma found.0 found.1

  -- its table has one of the names
  entry-place : (entry : Entry) → IsEntry task.problem task.tables entry → IsPlaceIn tables (table_in entry)
  entry-place (Op inst) is = tt
  entry-place (Macro number prefix sigma) is = omega (arith, each, place-within-list task.tables number is.0 is.1)

  named-move : (kind : MoveKind) (entry : Entry) → IsEntry task.problem task.tables entry
      → IsNamedMove names tables (entry_told task kind entry)
  named-move kind entry is = record {
    table = entry-place entry is;
    steps = All-weaker (IsInstanceOf task.problem) (IsNamedInstance names)
        (λ inst of. named-step-of task.problem names all (Some inst) of) (effect_of task.tables entry) (entry-steps entry is);
  }

  named-origin : (origin : Option TreeOrigin) → OriginTells task origin → IsNamedOrigin names tables origin
  named-origin None tells = tt
  named-origin (Some origin) tells =
      subst (IsNamedMove names tables) (sym tells.told_is) (named-move tells.kind tells.entry tells.is_entry)

  pub named-nodes : (weight : ℕ) (tree : Tree) → IsTree task weight tree → All (IsNamedNode names tables) tree.nodes
  named-nodes weight tree is =
      All-weaker (λ (node : TreeNode). OriginTells task node.origin) (IsNamedNode names tables)
      (λ node tells. named-origin node.origin tells) tree.nodes (nodes-tell task weight tree is)
