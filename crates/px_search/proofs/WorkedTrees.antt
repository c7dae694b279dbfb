-- The trees of the smallest searches.
use Rattle.std.proofs.Common.{◌≡◌, ℕ, zero, suc, ◌<◌, ◌≤◌, List, [], ◌∷◌, ◌++◌, map, length, refl, sym, ◌∙◌, ap, subst, inl, inr, arith, Some, slice_get, length-append}
use Rattle.px_base.specs.Sets.{set_of, with_item}
use Rattle.px_table.specs.declared.entry.Move.{Move}
use Rattle.px_table.specs.declared.entry.Move.TheVariants.{Apply, Push}
use Rattle.px_table.specs.declared.node.Node.{Node}
use Rattle.px_order.specs.Places.{at_end, some-one}
use Rattle.px_order.specs.RunLaws.{root}
use Rattle.px_order.specs.RunOrigins.{few-moves, origins}
use Rattle.px_order.specs.Runs.{Begins}
use Rattle.px_ends.proofs.WorkedByValue.{value_facts}
use Rattle.px_ends.specs.ByValue.{order_by, space_of}
use Rattle.px_ends.specs.Ends.{node_of}
use Rattle.px_ends.specs.Tasks.{Task, after}
use Rattle.px_ends.specs.WorkedEnds.{bare, make, maker, p_from_none, stuck}
use Rattle.px_tree.specs.declared.nodes.MoveKind.TheVariants as kinds
use Rattle.px_tree.specs.declared.nodes.TreeEnd.TheVariants.{Solved, Exhausted, More}
use Rattle.px_ends.specs.Trees.{EndsTree, IsTree, TellsNode, TellsNodes}
use Rattle.px_search.specs.WorkedTrees.{TreeFacts, by_maker, first_node}

module _ (task : Task) (weight : ℕ) where
  abbrev IsBeginning : List (List Move) → Type 0
  IsBeginning found = Begins (space_of task) (order_by task weight) found

  abbrev At : List (List Move) → ℕ → List Move → Type 0
  At found k moves = slice_get found k ≡ Some moves

  -- the first list is empty
  first-empty : (a : List Move) (rest : List (List Move)) → IsBeginning (a ∷ rest) → a ≡ []
  first-empty a rest b = some-one a [] (root (space_of task) (order_by task weight) b.1.0 (a ∷ rest) b.0 b.1.1)

  -- the second has one move
  second-one : (a b : List Move) (rest : List (List Move)) → IsBeginning (a ∷ b ∷ rest) → (m : Move) × (b ≡ m ∷ [])
  second-one a b rest begun =
      elim (origins (space_of task) (order_by task weight) begun.1.0 (a ∷ b ∷ rest) begun.0 begun.1.1 1 b refl) [
        | inl none ↦ absurd (omega (arith, none.0))
        | inr from ↦ (
          from.m,
          from.moves_are ∙ ap (λ (l : List Move). l ++ from.m ∷ []) (parent from.place from.parent from.earlier from.stands),
        )
      ]
    where
      parent : (place : ℕ) (prefix : List Move) → place < 1 → At (a ∷ b ∷ rest) place prefix → prefix ≡ []
      parent zero prefix below at = sym (some-one a prefix at) ∙ first-empty a (b ∷ rest) begun
      parent (suc place) prefix below at = absurd (omega (arith, below))

  -- where two moves are found third, the second list has the first of them
  third-two : (a b : List Move) (m n : Move) → IsBeginning (a ∷ b ∷ (m ∷ n ∷ []) ∷ []) → b ≡ m ∷ []
  third-two a b m n begun =
      elim (origins (space_of task) (order_by task weight) begun.1.0 (a ∷ b ∷ (m ∷ n ∷ []) ∷ []) begun.0 begun.1.1 2 (m ∷ n ∷ []) refl) [
        | inl none ↦ absurd (omega (arith, none.0))
        | inr from ↦ parent from.place from.parent from.earlier from.stands (prefix from.parent from.m from.moves_are)
      ]
    where
      prefix : (l : List Move) (k : Move) → m ∷ n ∷ [] ≡ l ++ k ∷ [] → m ∷ [] ≡ l
      prefix [] k e = absurd (cc)
      prefix (x ∷ []) k e = cc
      prefix (x ∷ y ∷ l) k e = absurd (omega (arith, ap length e, length-append l (k ∷ [])))

      parent : (place : ℕ) (l : List Move) → place < 2 → At (a ∷ b ∷ (m ∷ n ∷ []) ∷ []) place l → m ∷ [] ≡ l → b ≡ m ∷ []
      parent zero l below at is =
          let none : m ∷ [] ≡ [] = is ∙ sym (some-one a l at) ∙ first-empty a (b ∷ (m ∷ n ∷ []) ∷ []) begun in absurd (cc)
      parent (suc zero) l below at is = some-one b l at ∙ sym is
      parent (suc (suc place)) l below at is = absurd (omega (arith, below))

  -- two lists, and two moves after them
  before-two : (earlier : List (List Move)) (m n : Move) → IsBeginning (earlier ++ (m ∷ n ∷ []) ∷ []) → length earlier ≤ 2
      → earlier ≡ [] ∷ (m ∷ []) ∷ []
  before-two earlier m n begun few =
      by earlier begun (few-moves (space_of task) (order_by task weight) begun.1.0 (earlier ++ (m ∷ n ∷ []) ∷ []) begun.0 begun.1.1
      (length earlier) (m ∷ n ∷ []) (at_end earlier (m ∷ n ∷ []))) few
    where
      by : (earlier : List (List Move)) → IsBeginning (earlier ++ (m ∷ n ∷ []) ∷ []) → 2 ≤ length earlier → length earlier ≤ 2
          → earlier ≡ [] ∷ (m ∷ []) ∷ []
      by [] begun more few = absurd (omega (arith, more))
      by (a ∷ []) begun more few = absurd (omega (arith, more))
      by (a ∷ b ∷ []) begun more few = cc (first-empty a (b ∷ (m ∷ n ∷ []) ∷ []) begun, third-two a b m n begun)
      by (a ∷ b ∷ c ∷ rest) begun more few = absurd (omega (arith, few))

abbrev to_p : ℕ → Task
to_p nodes = p_from_none (stuck ∷ maker ∷ []) nodes

abbrev pushed : List Move
pushed = Push make ∷ []

abbrev first_two : List (List Move)
first_two = [] ∷ pushed ∷ []

abbrev all_three : List (List Move)
all_three = [] ∷ pushed ∷ (Push make ∷ Apply ∷ []) ∷ []

-- ---- the nodes

first-told : (nodes : ℕ) → TellsNode (to_p nodes) [] [] (first_node 1)
first-told nodes = record { origin = refl; needs_are = sym (value_facts.at_first nodes) }

push-told : (nodes : ℕ) → TellsNode (to_p nodes) ([] ∷ []) pushed (by_maker kinds.Push 0 1)
push-told nodes = record { origin = ([], Push make, refl, refl, refl); needs_are = sym (value_facts.with_make nodes) }

apply-told : (nodes : ℕ) → TellsNode (to_p nodes) first_two (Push make ∷ Apply ∷ []) (by_maker kinds.Apply 1 0)
unfolding set_of with_item
apply-told nodes =
    record { origin = (pushed, Apply, refl, refl, (make, [], refl, refl)); needs_are = sym (value_facts.at_last nodes) }

two-told : (nodes : ℕ) → TellsNodes (to_p nodes) first_two (first_node 1 ∷ by_maker kinds.Push 0 1 ∷ [])
two-told nodes zero node moves at at_moves =
    subst (λ (l : List Move). TellsNode (to_p nodes) [] l node) (some-one [] moves at_moves)
    (subst (TellsNode (to_p nodes) [] []) (some-one (first_node 1) node at) (first-told nodes))
two-told nodes (suc zero) node moves at at_moves =
    subst (λ (l : List Move). TellsNode (to_p nodes) ([] ∷ []) l node) (some-one pushed moves at_moves)
    (subst (TellsNode (to_p nodes) ([] ∷ []) pushed) (some-one (by_maker kinds.Push 0 1) node at) (push-told nodes))
two-told nodes (suc (suc place)) node moves at at_moves = absurd (cc)

three-told : (nodes : ℕ)
    → TellsNodes (to_p nodes) all_three (first_node 1 ∷ by_maker kinds.Push 0 1 ∷ by_maker kinds.Apply 1 0 ∷ [])
three-told nodes zero node moves at at_moves = two-told nodes 0 node moves at at_moves
three-told nodes (suc zero) node moves at at_moves = two-told nodes 1 node moves at at_moves
three-told nodes (suc (suc zero)) node moves at at_moves =
    subst (λ (l : List Move). TellsNode (to_p nodes) first_two l node) (some-one (Push make ∷ Apply ∷ []) moves at_moves)
    (subst (TellsNode (to_p nodes) first_two (Push make ∷ Apply ∷ [])) (some-one (by_maker kinds.Apply 1 0) node at) (apply-told nodes))
three-told nodes (suc (suc (suc place))) node moves at at_moves = absurd (cc)

-- ---- the trees

module _ (weight : ℕ) where
  made-tree : IsTree (to_p 3) weight
      (record { nodes = first_node 1 ∷ by_maker kinds.Push 0 1 ∷ by_maker kinds.Apply 1 0 ∷ []; end = Solved })
  made-tree =
      let end = value_facts.made weight in
      let earlier =
      before-two (to_p 3) weight end.earlier (Push make) Apply end.stop.begins (omega (arith, end.room)) in
      record {
        found = all_three;
        count = refl;
        nodes = three-told 3;
        end = (
          Push make ∷ Apply ∷ [],
          end,
          ap (λ (l : List (List Move)). l ++ (Push make ∷ Apply ∷ []) ∷ []) (sym earlier),
        );
      }

  limit-tree : IsTree (to_p 2) weight (record { nodes = first_node 1 ∷ by_maker kinds.Push 0 1 ∷ []; end = More 2 })
  limit-tree =
      let limit = value_facts.no_room weight in
      record {
        found = first_two;
        count = refl;
        nodes = two-told 2;
        end = subst (λ (l : List (List Move)). EndsTree (to_p 2) weight l (More 2))
            (by limit.earlier limit.limit.last limit.limit.stop.begins limit.nodes_are) limit.limit;
      }
    where
      the-push : (m : Move) → bare (make ∷ []) ≡ after (to_p 2) (bare []) m → m ≡ Push make
      the-push Apply is = let stacks = ap (λ (node : Node). node.stack) is in absurd (cc)
      the-push (Push entry) is = let stacks = ap (λ (node : Node). node.stack) is in cc

      by : (earlier : List (List Move)) (last : List Move) → Begins (space_of (to_p 2)) (order_by (to_p 2) weight) (earlier ++ last ∷ [])
          → bare [] ∷ bare (make ∷ []) ∷ [] ≡ map (node_of (to_p 2)) earlier → earlier ≡ first_two
      by [] last begun are = absurd (cc)
      by (a ∷ []) last begun are = absurd (cc)
      by (a ∷ b ∷ []) last begun are =
          let one = second-one (to_p 2) weight a b (last ∷ []) begun in
          let node : bare (make ∷ []) ≡ node_of (to_p 2) b = cc in
          let same = the-push one.0 (node ∙ ap (node_of (to_p 2)) one.1) in
          cc (first-empty (to_p 2) weight a (b ∷ last ∷ []) begun, one.1, same)
      by (a ∷ b ∷ c ∷ rest) last begun are = absurd (cc)

  exhausted-tree : IsTree (p_from_none (stuck ∷ []) 1) weight (record { nodes = first_node 1 ∷ []; end = Exhausted })
  exhausted-tree =
      let end = value_facts.not_open weight in
      record {
        found = [] ∷ [];
        count = refl;
        nodes = told;
        end = (end, sym (by end.lists (end.picked, end.over.comes) end.room));
      }
    where
      told : TellsNodes (p_from_none (stuck ∷ []) 1) ([] ∷ []) (first_node 1 ∷ [])
      told zero node moves at at_moves =
          subst (λ (l : List Move). TellsNode (p_from_none (stuck ∷ []) 1) [] l node) (some-one [] moves at_moves)
          (subst (TellsNode (p_from_none (stuck ∷ []) 1) [] []) (some-one (first_node 1) node at)
          (record { origin = refl; needs_are = refl }))
      told (suc place) node moves at at_moves = absurd (cc)

      by : (lists : List (List Move))
          → Begins (space_of (p_from_none (stuck ∷ []) 1)) (order_by (p_from_none (stuck ∷ []) 1) weight) lists → length lists ≤ 1
          → lists ≡ [] ∷ []
      by [] begun few =
          let none = root (space_of (p_from_none (stuck ∷ []) 1)) (order_by (p_from_none (stuck ∷ []) 1) weight) begun.1.0 [] begun.0
          begun.1.1 in absurd (cc)
      by (a ∷ []) begun few = cc (first-empty (p_from_none (stuck ∷ []) 1) weight a [] begun)
      by (a ∷ b ∷ rest) begun few = absurd (omega (arith, few))

pub tree_facts : TreeFacts
tree_facts = record { made = made-tree; no_room = limit-tree; not_open = exhausted-tree }
