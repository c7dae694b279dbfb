-- The nodes of a tree, from what a search keeps.
use Rattle.std.proofs.Common.{◌≡◌, ◌-◌, ◌<◌, ◌≤◌, ℕ, zero, suc, None, List, [], ◌∷◌, ◌++◌, length, refl, sym, ◌∙◌, ap, subst, inl, inr, arith, Some, slice_get, take, length-append, min}
use Rattle.std.specs.Prelude.{All, Result, Ok, Err, OnOk, IfErr, ⊤}
use Rattle.std.proofs.lemmas.List.Elements.{All-head}
use Rattle.px_table.specs.declared.entry.Entry.{Entry}
use Rattle.px_table.specs.declared.entry.Move.{Move}
use Rattle.px_table.specs.declared.entry.Move.TheVariants.{Apply, Push}
use Rattle.px_table.specs.declared.node.Node.{Node}
use Rattle.px_entries.specs.Entries.{IsEntry}
use Rattle.px_numbers.specs.declared.nodes.NodeKey.{NodeKey}
use Rattle.px_numbers.specs.declared.stacks.Frame.{Frame}
use Rattle.px_gaps.specs.declared.question.Question.{Question}
use Rattle.px_numbers.specs.NumberLaws.{one_at}
use Rattle.px_numbers.specs.Numbers.{Kept, IsKeyOf, IsTopOf}
use Rattle.px_order.specs.Places.{contains_place, place-within-list, push-cases, still_there}
use Rattle.px_order.specs.RunLaws.{made}
use Rattle.px_ends.proofs.Exclusion.{limit-count}
use Rattle.px_ends.specs.ByValue.{space_of}
use Rattle.px_ends.specs.Ends.{AreMoves, node_of}
use Rattle.px_ends.specs.Lacks.{needs as needs_of}
use Rattle.px_ends.specs.Moves.{CanMake, reached}
use Rattle.px_ends.specs.Tasks.{Task, IsAllowed, after, initial_node}
use Rattle.px_tree.specs.declared.nodes.MoveKind.TheVariants as kinds
use Rattle.px_tree.specs.declared.nodes.TreeEnd.{TreeEnd}
use Rattle.px_tree.specs.declared.nodes.TreeEnd.TheVariants as tree_end
use Rattle.px_tree.specs.declared.nodes.TreeMove.{TreeMove}
use Rattle.px_tree.specs.declared.nodes.TreeNode.{TreeNode}
use Rattle.px_search.specs.declared.best_first.Explored.{Explored}
use Rattle.px_search.specs.declared.step.Origin.{Origin}
use Rattle.px_search.specs.declared.step.Step.TheVariants as step
use Rattle.px_search.specs.declared.stop.Limit.{Limit}
use Rattle.px_search.specs.declared.stop.Stop.{Stop}
use Rattle.px_search.specs.declared.stop.Stop.TheVariants.{Solved, Full, Limited, NoMemory}
use Rattle.px_search.specs.Looping.{AreFound, AreFoundBy, EndsAs, IsFull, IsGone, IsLimitedAt, IsReached, StopsAt}
use Rattle.px_search.specs.Searching.{order_of}
use Rattle.px_search.specs.Steps.{DescribesMove}
use Rattle.px_ends.specs.Trees.{IsAskedAmong, IsTree, TellsMove, TellsNode, TellsNodes, entry_told}
use Rattle.px_search.proofs.GoingLaws.{counted, entries_at, key_is, list_of}

-- ---- a move

module _ (task : Task) (kept : Kept) where
  pub push-place : (number : ℕ) (m : Move) → DescribesMove kept (step.Push number) m → number < length kept.entries
  push-place number Apply is = absurd is
  push-place number (Push entry) is = place-within-list kept.entries number entry is

  pub push-entry : (number : ℕ) (node : Node) (m : Move) (entry : Entry) → DescribesMove kept (step.Push number) m → IsAllowed task node m
      → slice_get kept.entries number ≡ Some entry → IsEntry task.problem task.tables entry
  push-entry number node Apply entry is can at = absurd is
  push-entry number node (Push other) entry is can at =
      subst (IsEntry task.problem task.tables) (one_at kept.entries number other entry is at) can.0.is_entry

  pub push-told : (number : ℕ) (node : Node) (m : Move) (entry : Entry) (told : TreeMove) → DescribesMove kept (step.Push number) m
      → slice_get kept.entries number ≡ Some entry → told ≡ entry_told task kinds.Push entry → TellsMove task node m told
  push-told number node Apply entry told is at tells = absurd is
  push-told number node (Push other) entry told is at tells =
      tells ∙ ap (entry_told task kinds.Push) (one_at kept.entries number entry other at is)

  pub top-place : (stack : List Entry) (frame : Frame) → IsTopOf kept stack (Some frame) → frame.entry < length kept.entries
  top-place [] frame is = absurd is
  top-place (entry ∷ below) frame is = place-within-list kept.entries frame.entry entry is.0

  pub top-entry : (stack : List Entry) (frame : Frame) (entry : Entry) → IsTopOf kept stack (Some frame)
      → All (IsEntry task.problem task.tables) stack → slice_get kept.entries frame.entry ≡ Some entry
      → IsEntry task.problem task.tables entry
  top-entry [] frame entry is all at = absurd is
  top-entry (top ∷ below) frame entry is all at =
      subst (IsEntry task.problem task.tables) (one_at kept.entries frame.entry top entry is.0 at)
      (All-head (IsEntry task.problem task.tables) top below all)

  pub top-told : (node : Node) (m : Move) (frame : Frame) (entry : Entry) (told : TreeMove) → DescribesMove kept step.Apply m
      → IsTopOf kept node.stack (Some frame) → slice_get kept.entries frame.entry ≡ Some entry → told ≡ entry_told task kinds.Apply entry
      → TellsMove task node m told
  top-told node (Push other) frame entry told is top at tells = absurd is
  top-told node Apply frame entry told is top at tells = by node.stack refl top
    where
      by : (stack : List Entry) → node.stack ≡ stack → IsTopOf kept stack (Some frame) → TellsMove task node Apply told
      by [] same none = absurd none
      by (first ∷ below) same has =
          (first, below, same, tells ∙ ap (entry_told task kinds.Apply) (one_at kept.entries frame.entry entry first at has.0))

  pub no-top : (node : Node) (m : Move) → DescribesMove kept step.Apply m → IsAllowed task node m → ¬ IsTopOf kept node.stack None
  no-top node (Push other) is can top = is
  no-top node Apply is can top = by node.stack refl top
    where
      by : (stack : List Entry) → node.stack ≡ stack → ¬ IsTopOf kept stack None
      by [] same none = can.0 same
      by (first ∷ below) same none = none

  -- ---- a node

  last-allowed : (from : Node) (moves : List Move) (m : Move) → CanMake (IsAllowed task) (after task) from (moves ++ m ∷ [])
      → IsAllowed task (reached (IsAllowed task) (after task) from moves) m
  last-allowed from [] m can = can.0
  last-allowed from (n ∷ moves) m can = last-allowed (after task from n) moves m can.1

  module _ (keys : List NodeKey) (origins : List Origin) (found : List (List Move)) (are : AreFoundBy task kept keys origins found) where
    all-made : (k : ℕ) (moves : List Move) → slice_get found k ≡ Some moves → AreMoves task moves
    all-made k moves at = made (space_of task) (order_of task) are.begins.1.0 found are.begins.0 are.begins.1.1 moves
        (contains_place found k moves at)

    pub node-there : (place : ℕ) (key : NodeKey) → slice_get keys place ≡ Some key
        → (node : Node) × IsKeyOf kept key node × All (IsEntry task.problem task.tables) node.stack
    node-there place key at =
        let here = list_of task kept keys origins found are.numbered place key at in
        (node_of task here.0, here.2, entries_at task here.0 (all-made place here.0 here.1))

    pub origin-within : (place : ℕ) → place < length keys → 0 < place → place - 1 < length origins
    origin-within place below above = omega (arith, below, above, are.numbered.one_more)

    pub parent-within : (k : ℕ) (origin : Origin) → slice_get origins k ≡ Some origin → origin.parent < length keys
    parent-within k origin at =
        omega (arith, are.numbered.earlier k origin at, place-within-list origins k origin at, are.numbered.one_more)

    pub step-there : (k : ℕ) (origin : Origin) (key : NodeKey) → slice_get origins k ≡ Some origin
        → slice_get keys origin.parent ≡ Some key
        → (node : Node) × (m : Move) × IsKeyOf kept key node × DescribesMove kept origin.last m × IsAllowed task node m
        × All (IsEntry task.problem task.tables) node.stack
    step-there k origin key at at_key =
        let s = are.numbered.trace.later k origin at in (
          node_of task s.0,
          s.1,
          key_is task kept keys origins found are.numbered origin.parent key s.0 at_key s.2,
          s.3,
          last-allowed (initial_node task) s.0 s.1 (all-made (suc k) (s.0 ++ s.1 ∷ []) s.4),
          entries_at task s.0 (all-made origin.parent s.0 s.2),
        )

    -- the node of a list of moves needs as much as that of the pair
    needs-there : (place : ℕ) (key : NodeKey) (count : ℕ) (moves : List Move) → slice_get keys place ≡ Some key
        → ((node : Node) → IsKeyOf kept key node → count ≡ needs_of task node) → slice_get found place ≡ Some moves
        → count ≡ needs_of task (node_of task moves)
    needs-there place key count moves at says at_moves =
        says (node_of task moves) (key_is task kept keys origins found are.numbered place key moves at at_moves)

    pub tells-first : (place : ℕ) (key : NodeKey) (count : ℕ) (moves : List Move) → place ≡ 0 → slice_get keys place ≡ Some key
        → ((node : Node) → IsKeyOf kept key node → count ≡ needs_of task node) → slice_get found place ≡ Some moves
        → TellsNode task (take place found) moves (record { origin = None; needs = count })
    tells-first place key count moves first at says at_moves = record {
      origin = one_at found 0 moves [] (subst (λ (n : ℕ). slice_get found n ≡ Some moves) first at_moves) are.numbered.trace.first;
      needs_are = needs-there place key count moves at says at_moves;
    }

    pub tells-later : (place : ℕ) (key : NodeKey) (count : ℕ) (moves : List Move) (origin : Origin) (parent : NodeKey) (told : TreeMove)
        → 0 < place → slice_get keys place ≡ Some key
        → ((node : Node) → IsKeyOf kept key node → count ≡ needs_of task node) → slice_get origins (place - 1) ≡ Some origin
        → slice_get keys origin.parent ≡ Some parent
        → ((node : Node) (m : Move) → IsKeyOf kept parent node → DescribesMove kept origin.last m → TellsMove task node m told)
        → slice_get found place ≡ Some moves
        → TellsNode task (take place found) moves (record { origin = Some (record { parent = origin.parent; last = told }); needs = count })
    tells-later place key count moves origin parent told above at says at_origin at_parent tells at_moves =
        let s = are.numbered.trace.later (place - 1) origin at_origin in
        let number : suc (place - 1) ≡ place = omega (arith, above) in
        record {
          origin = (
            s.0,
            s.1,
            one_at found place moves (s.0 ++ s.1 ∷ []) at_moves (subst (λ (n : ℕ). slice_get found n ≡ Some (s.0 ++ s.1 ∷ [])) number s.4),
            in-front place origin.parent found s.0 (omega (arith, are.numbered.earlier (place - 1) origin at_origin, above)) s.2,
            tells (node_of task s.0) s.1 (key_is task kept keys origins found are.numbered origin.parent parent s.0 at_parent s.2) s.3,
          );
          needs_are = needs-there place key count moves at says at_moves;
        }
      where
        in-front : {A : Type 0} (n k : ℕ) (xs : List A) (x : A) → k < n → slice_get xs k ≡ Some x → slice_get (take n xs) k ≡ Some x
        in-front zero k xs x below e = absurd (omega (arith, below))
        in-front (suc n) k [] x below e = absurd (cc)
        in-front (suc n) zero (y ∷ xs) x below e = e
        in-front (suc n) (suc k) (y ∷ xs) x below e = in-front n k xs x (omega (arith, below)) e

  -- ---- the nodes

  pub tells-none : (found : List (List Move)) (nodes : List TreeNode) → nodes ≡ [] → TellsNodes task found nodes
  tells-none found nodes none place node moves at = absurd (no-item nodes none place node at)
    where
      no-item : (nodes : List TreeNode) → nodes ≡ [] → (k : ℕ) (node : TreeNode) → ¬ (slice_get nodes k ≡ Some node)
      no-item [] none k node at = cc
      no-item (n ∷ nodes) none k node at = omega (arith, ap length none)

  pub tells-more : (found : List (List Move)) (nodes more : List TreeNode) (node : TreeNode) (place : ℕ) → TellsNodes task found nodes
      → more ≡ nodes ++ node ∷ [] → length nodes ≡ place
      → ((moves : List Move) → slice_get found place ≡ Some moves → TellsNode task (take place found) moves node)
      → TellsNodes task found more
  tells-more found nodes more node place tells is long new =
      subst (TellsNodes task found) (sym is)
      (λ k one moves at at_moves. elim (push-cases nodes node one k at) [
        | inl old ↦ tells k one moves old at_moves
        | inr last ↦
            let number : place ≡ k = sym long ∙ sym last.0 in
            subst (λ (n : ℕ). TellsNode task (take n found) moves one) number
            (subst (TellsNode task (take place found) moves) last.1
            (new moves (subst (λ (n : ℕ). slice_get found n ≡ Some moves) (sym number) at_moves)))
      ])

  -- the nodes of the first of the lists
  tells-prefix : (found : List (List Move)) (last : List Move) (nodes : List TreeNode) → TellsNodes task (found ++ last ∷ []) nodes
      → TellsNodes task found nodes
  tells-prefix found last nodes tells place node moves at at_moves =
      subst (λ (l : List (List Move)). TellsNode task l moves node)
      (prefix-taken place found last (place-within-list found place moves at_moves))
      (tells place node moves at (still_there found (last ∷ []) place moves at_moves))
    where
      prefix-taken : {A : Type 0} (n : ℕ) (xs : List A) (x : A) → n < length xs → take n (xs ++ x ∷ []) ≡ take n xs
      prefix-taken zero [] x below = refl
      prefix-taken zero (y ∷ xs) x below = refl
      prefix-taken (suc n) [] x below = absurd (omega (arith, below))
      prefix-taken (suc n) (y ∷ xs) x below = ap (λ t. y ∷ t) (prefix-taken n xs x (omega (arith, below)))

-- ---- the tree

-- what a search came to that ends so
abbrev Came : Task → Explored → TreeEnd → Type 0
Came task explored tree_end.Exhausted = IsGone task explored
Came task explored tree_end.Solved = IsReached task explored.cache.numbers explored.nodes explored.origins.items
Came task explored (tree_end.More moves) = IsFull task explored.cache.numbers explored.nodes explored.origins.items moves
Came task explored (tree_end.ShapeLimit shapes) =
    (limit : Limit) × IsLimitedAt task explored.cache.numbers explored.nodes explored.origins.items limit
    × (shapes ≡ task.problem.shapes)

module _ (task : Task) (explored : Explored) where
  pub came-to : (result : Result ⊤ Stop) (end : TreeEnd) → OnOk result (IsGone task explored) → IfErr result (StopsAt task explored)
      → EndsAs task.problem.shapes result end → Came task explored end
  came-to (Ok done) end gone stops is = subst (Came task explored) (sym is) gone
  came-to (Err Solved) end gone stops is = subst (Came task explored) (sym is) stops.1
  came-to (Err (Full moves)) end gone stops is = subst (Came task explored) (sym is) stops.1
  came-to (Err (Limited limit)) end gone stops is = subst (Came task explored) (sym is) (limit, stops.1, refl)
  came-to (Err NoMemory) end gone stops is = absurd is

  pub came-found : (end : TreeEnd) → Came task explored end → (found : List (List Move)) × AreFound task explored found
  came-found tree_end.Exhausted (found, are, end) = (found, are)
  came-found tree_end.Solved (found, are, end) = (found, are)
  came-found (tree_end.More moves) full = (full.found ++ full.end.last ∷ [], full.are)
  came-found (tree_end.ShapeLimit shapes) (limit, limited, is) = (limited.found, limited.are)

  asked-room : (found : List (List Move)) (moves : List Move) (question : Question)
      → IsAskedAmong task task.problem.weight found moves question → length found ≤ task.nodes
  asked-room found moves question (inl (gone, same, asks)) = omega (arith, gone.room, ap length same)
  asked-room found moves question (inr (tested, same, empty, is)) =
      omega (arith, tested.room, ap length same, length-append tested.earlier (moves ∷ []))

  count_of : (found : List (List Move)) → AreFound task explored found → length found ≡ length explored.nodes
  count_of found are = counted task explored.cache.numbers explored.nodes explored.origins.items found are.numbered

  -- there are as many nodes as there are found, or as there is room for
  pub came-tree : (end : TreeEnd) (nodes : List TreeNode) (count all : ℕ) → Came task explored end → all ≡ length explored.nodes
      → count ≡ min all task.nodes → length nodes ≡ count
      → ((found : List (List Move)) → AreFound task explored found → TellsNodes task found nodes)
      → IsTree task task.problem.weight (record { nodes = nodes; end = end })
  came-tree tree_end.Exhausted nodes count all (found, are, (end, is)) all_is count_is long tells = record {
    found = found;
    count = omega (arith, count_of found are, end.room, ap length is, all_is, count_is, long);
    nodes = tells found are;
    end = (end, is);
  }
  came-tree tree_end.Solved nodes count all (found, are, (moves, end, is)) all_is count_is long tells = record {
    found = found;
    count =
        omega (
          arith,
          count_of found are,
          end.room,
          ap length is,
          length-append end.earlier (moves ∷ []),
          all_is,
          count_is,
          long,
        );
    nodes = tells found are;
    end = (moves, end, is);
  }
  came-tree (tree_end.More moves) nodes count all full all_is count_is long tells = record {
    found = full.found;
    count =
        let lists = full.found ++ full.end.last ∷ [] in
        omega (
          arith,
          count_of lists full.are,
          full.end.full,
          length-append full.found (full.end.last ∷ []),
          all_is,
          count_is,
          long,
        );
    nodes =
        tells-prefix task explored.cache.numbers full.found full.end.last nodes (tells (full.found ++ full.end.last ∷ []) full.are);
    end = full.end;
  }
  came-tree (tree_end.ShapeLimit shapes) nodes count all (limit, limited, is) all_is count_is long tells = record {
    found = limited.found;
    count =
        omega (
          arith,
          count_of limited.found limited.are,
          asked-room limited.found limited.first.moves limit.met.question limited.first.asked,
          all_is,
          count_is,
          long,
        );
    nodes = tells limited.found limited.are;
    end = (
      limit.met,
      limited.first,
      is ∙ sym (limit-count task.problem limit.met.question limit.met.formula limit.met.shapes limited.first.met),
    );
  }
