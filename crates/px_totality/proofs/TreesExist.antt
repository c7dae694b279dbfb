-- Each search has a tree, with whatever weight.
use Rattle.std.specs.Prelude.{◌≡◌, ◌<◌, ◌⊎◌, ℕ, None, Some, List, [], ◌∷◌, ◌++◌, length, slice_get, take}
use Rattle.std.proofs.Common.{zero, suc, refl, sym, ap, ◌∙◌, subst, inl, inr, arith}
use Rattle.px_terms.specs.declared.atom.Atom.{Atom}
use Rattle.px_proof.specs.declared.shape.Tick.{Tick}
use Rattle.px_table.specs.declared.entry.Entry.{Entry}
use Rattle.px_table.specs.declared.entry.Move.{Move}
use Rattle.px_table.specs.declared.entry.Move.TheVariants.{Apply, Push}
use Rattle.px_table.specs.declared.node.Node.{Node}
use Rattle.px_gaps.specs.Questions.{MeetsLimit}
use Rattle.px_gaps.specs.declared.question.MetLimit.{MetLimit}
use Rattle.px_gaps.specs.declared.question.Question.{Question}
use Rattle.px_order.specs.Beginnings.{can-prefix}
use Rattle.px_order.specs.Places.{contains_place, get-prefix, none-behind, place-within-list, some-one, still_there}
use Rattle.px_order.specs.RunLaws.{made}
use Rattle.px_order.specs.RunOrigins.{From, origins}
use Rattle.px_order.specs.Runs.{Begins}
use Rattle.px_order.specs.Shortlex.{breadth_order}
use Rattle.px_order.specs.Spaces.{CanMake, IsBefore, IsLinear}
use Rattle.px_tree.specs.declared.nodes.MoveKind.TheVariants as kinds
use Rattle.px_tree.specs.declared.nodes.Tree.{Tree}
use Rattle.px_tree.specs.declared.nodes.TreeEnd.{TreeEnd}
use Rattle.px_tree.specs.declared.nodes.TreeEnd.TheVariants.{Solved, Exhausted, More, ShapeLimit}
use Rattle.px_tree.specs.declared.nodes.TreeMove.{TreeMove}
use Rattle.px_tree.specs.declared.nodes.TreeNode.{TreeNode}
use Rattle.px_ends.proofs.MoveLaws.{move_cmp-total, move_cmp-same}
use Rattle.px_ends.specs.ByValue.{IsAsked, order_by, space_of}
use Rattle.px_ends.specs.Ends.{node_of}
use Rattle.px_ends.specs.Lacks.{needs}
use Rattle.px_ends.specs.Tasks.{IsAllowed, Task, initial_node}
use Rattle.px_ends.specs.Trees.{EndsTree, IsAskedAmong, IsFirstLimit, IsTree, TellsMove, TellsNode, TellsNodes, entry_told}
use Rattle.px_totality.specs.SearchEnds.{HasEnd, TreesExist}
use Rattle.px_totality.proofs.SomeEnd.{searches_end}

-- ---- lists

get-take : {A : Type 0} (n k : ℕ) (xs : List A) (x : A) → k < n → slice_get xs k ≡ Some x → slice_get (take n xs) k ≡ Some x
get-take zero k xs x low at = absurd (omega (arith, low))
get-take (suc n) k [] x low at = absurd (cc)
get-take (suc n) zero (y ∷ xs) x low at = at
get-take (suc n) (suc k) (y ∷ xs) x low at = get-take n k xs x (omega (arith, low)) at

-- items that have a partner each have a list of partners
abbrev Partners : {A B : Type 0} → (ℕ → A → B → Type 0) → List A → List B → Type 0
Partners {A} {B} P xs ys = (k : ℕ) (y : B) (x : A) → slice_get ys k ≡ Some y → slice_get xs k ≡ Some x → P k x y

one-more : {A B : Type 0} (P : ℕ → A → B → Type 0) (x : A) (xs : List A) (y : B) (ys : List B) → P 0 x y
    → Partners (λ k. P (suc k)) xs ys → Partners P (x ∷ xs) (y ∷ ys)
one-more {A} {B} P x xs y ys here rest zero z w at_z at_w =
    subst (λ (v : A). P 0 v z) (some-one x w at_w) (subst (λ (v : B). P 0 x v) (some-one y z at_z) here)
one-more P x xs y ys here rest (suc k) z w at_z at_w = rest k z w at_z at_w

partners : {A B : Type 0} (P : ℕ → A → B → Type 0) (xs : List A) → ((k : ℕ) (x : A) → slice_get xs k ≡ Some x → (y : B) × P k x y)
    → (ys : List B) × (length ys ≡ length xs) × Partners P xs ys
partners P [] each = ([], refl, λ k y x at_y at_x. absurd (cc))
partners P (x ∷ xs) each =
    let here = each 0 x refl in
    let rest = partners (λ k. P (suc k)) xs (λ k. each (suc k)) in
    (here.0 ∷ rest.0, ap suc rest.1, one-more P x xs here.0 rest.0 here.1 rest.2)

module _ (task : Task) (weight : ℕ) where
  linear : IsLinear (order_by task weight)
  linear = record { total = move_cmp-total; identical = move_cmp-same }

  abbrev Begun : List (List Move) → Type 0
  Begun lists = Begins (space_of task) (order_by task weight) lists

  -- ---- the nodes

  told-apply : (node : Node) (stack : List Entry) → node.stack ≡ stack → (¬ (node.stack ≡ []))
      → (told : TreeMove) × TellsMove task node Apply told
  told-apply node [] is some = absurd (some is)
  told-apply node (entry ∷ below) is some = (entry_told task kinds.Apply entry, (entry, below, is, refl))

  told-move : (node : Node) (m : Move) → IsAllowed task node m → (told : TreeMove) × TellsMove task node m told
  told-move node (Push entry) may = (entry_told task kinds.Push entry, refl)
  told-move node Apply may = told-apply node node.stack refl may.0

  module _ (all : List (List Move)) (b : Begun all) (found rest : List (List Move)) (all_are : all ≡ found ++ rest) where
    in-all : (k : ℕ) (moves : List Move) → slice_get found k ≡ Some moves → slice_get all k ≡ Some moves
    in-all k moves at = ap (λ (l : List (List Move)). slice_get l k) all_are ∙ still_there found rest k moves at

    from-origin : (k : ℕ) (moves : List Move) → slice_get found k ≡ Some moves
        → ((k ≡ 0) × ([] ≡ moves)) ⊎ From (space_of task) (order_by task weight) all b.0 k moves
        → (node : TreeNode) × TellsNode task (take k found) moves node
    from-origin k moves at (inl first) =
        (record { origin = None; needs = needs task (node_of task moves) }, record { origin = sym first.1; needs_are = refl })
    from-origin k moves at (inr h) =
        let can = subst (λ (l : List Move). CanMake (space_of task) (initial_node task) l) h.moves_are
        (made (space_of task) (order_by task weight) b.1.0 all b.0 b.1.1 moves (contains_place all k moves (in-all k moves at))) in
        let may = (can-prefix (space_of task) (IsBefore (order_by task weight)) (breadth_order (order_by task weight) linear)
        (initial_node task) h.parent h.m can).1 in
        let told = told-move (node_of task h.parent) h.m may in
        let stands : slice_get found h.place ≡ Some h.parent =
        get-prefix found rest h.place h.parent (omega (arith, h.earlier, place-within-list found k moves at))
        (ap (λ (l : List (List Move)). slice_get l h.place) (sym all_are) ∙ h.stands) in (
          record { origin = Some (record { parent = h.place; last = told.0 }); needs = needs task (node_of task moves) },
          record {
            origin = (h.parent, h.m, h.moves_are, get-take k h.place found h.parent h.earlier stands, told.1);
            needs_are = refl;
          },
        )

    nodes : (nodes : List TreeNode) × (length nodes ≡ length found) × TellsNodes task found nodes
    nodes = partners (λ k moves node. TellsNode task (take k found) moves node) found
        (λ k moves at. from-origin k moves at
        (origins (space_of task) (order_by task weight) b.1.0 all b.0 b.1.1 k moves (in-all k moves at)))

    tree-of : (end : TreeEnd) → EndsTree task weight found end → (tree : Tree) × IsTree task weight tree
    tree-of end is =
        (record { nodes = nodes.0; end = end }, record { found = found; count = nodes.1; nodes = nodes.2; end = is })

  whole-tree : (found : List (List Move)) → Begun found → (end : TreeEnd) → EndsTree task weight found end
      → (tree : Tree) × IsTree task weight tree
  whole-tree found b = tree-of found b found [] (none-behind found)

  -- ---- the first question that meets the limit

  abbrev HasFirstLimit : Type 0
  HasFirstLimit = (found : List (List Move)) × (limit : MetLimit) × IsFirstLimit task weight found limit

  none-below : (¬ HasFirstLimit) → (n : ℕ) (found : List (List Move)) (moves : List Move) (question : Question) → length found < n
      → IsAskedAmong task weight found moves question → (formula : List Atom) (shapes : List (List Tick))
      → ¬ MeetsLimit task.problem question formula shapes
  none-below never zero found moves question few asked formula shapes met = omega (arith, few)
  none-below never (suc n) found moves question few asked formula shapes met = never (
    found,
    record { question = question; formula = formula; shapes = shapes },
    record {
      moves = moves;
      asked = asked;
      met = met;
      first = λ fewer others other less. none-below never n fewer others other (omega (arith, few, less));
    },
  )

  first-limit : (moves : List Move) (question : Question) → IsAsked task weight moves question → (formula : List Atom)
      (shapes : List (List Tick)) → MeetsLimit task.problem question formula shapes → ¬ ¬ HasFirstLimit
  first-limit moves question (inl (gone, asks)) formula shapes met never =
      none-below never (suc (length gone.found)) gone.found moves question (omega arith) (inl (gone, refl, asks)) formula shapes met
  first-limit moves question (inr (tested, (empty, is))) formula shapes met never =
      none-below never (suc (length (tested.earlier ++ moves ∷ []))) (tested.earlier ++ moves ∷ []) moves question (omega arith)
      (inr (tested, refl, empty, is)) formula shapes met

  begun-among : (found : List (List Move)) (moves : List Move) (question : Question) → IsAskedAmong task weight found moves question
      → Begun found
  begun-among found moves question (inl (gone, same, asks)) = subst Begun same (gone.place ∷ gone.picked, gone.comes)
  begun-among found moves question (inr (tested, same, empty, is)) = subst Begun same tested.begins

  -- ---- by the end

  abbrev HasTree : Type 0
  HasTree = (tree : Tree) × IsTree task weight tree

  by-end : (¬ HasTree) → ¬ HasEnd task weight
  by-end never (inl (moves, f)) = never (whole-tree (f.earlier ++ moves ∷ []) f.stop.begins Solved (moves, f, refl))
  by-end never (inr (inl x)) = never (whole-tree x.lists (x.picked, x.over.comes) Exhausted (x, refl))
  by-end never (inr (inr (inl (more, count, l)))) =
      never (tree-of (l.earlier ++ l.limit.last ∷ []) l.limit.stop.begins l.earlier (l.limit.last ∷ []) refl (More count) l.limit)
  by-end never (inr (inr (inr (node, limit, s)))) = first-limit s.moves limit.question s.asked limit.formula limit.shapes s.met
      (λ f. never (whole-tree f.0 (begun-among f.0 f.2.moves f.1.question f.2.asked) (ShapeLimit (length f.1.shapes)) (f.1, f.2, refl)))

pub trees_exist : TreesExist
trees_exist task weight never = searches_end task weight (by-end task weight never)
