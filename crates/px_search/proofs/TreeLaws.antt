-- A search has one tree.
use Rattle.std.proofs.Common.{◌≡◌, ℕ, zero, suc, ◌⊎◌, Option, None, List, [], ◌∷◌, ◌++◌, length, refl, sym, ◌∙◌, ap, subst, inl, inr, arith, Some, slice_get, slice_index_or, take, length-append}
use Rattle.px_table.specs.declared.entry.Entry.{Entry}
use Rattle.px_table.specs.declared.entry.Move.{Move}
use Rattle.px_table.specs.declared.entry.Move.TheVariants.{Apply, Push}
use Rattle.px_table.specs.declared.node.Node.{Node}
use Rattle.px_gaps.specs.declared.question.MetLimit.{MetLimit}
use Rattle.px_gaps.specs.declared.question.Question.{Question}
use Rattle.px_order.proofs.LawProofs.{exhausted_in_all, one_stop}
use Rattle.px_order.specs.AnyOrder.{no-more}
use Rattle.px_order.specs.Ends as order_ends
use Rattle.px_order.specs.Places.{at_index, none-behind, order_of, place-within-list, still_there}
use Rattle.px_order.specs.RunLaws.{once, prefixes}
use Rattle.px_order.specs.Runs.{Begins}
use Rattle.px_order.specs.Shortlex.{lower-total}
use Rattle.px_order.specs.Spaces.{IsLinear, IsLower}
use Rattle.px_ends.proofs.Exclusion.{limit-count}
use Rattle.px_ends.proofs.MoveLaws.{move_cmp-total, move_cmp-same}
use Rattle.px_ends.specs.ByValue.{aim_of, order_by, space_of}
use Rattle.px_ends.specs.Ends.{node_of}
use Rattle.px_ends.specs.Tasks.{Task}
use Rattle.px_tree.specs.declared.nodes.MoveKind.TheVariants as kinds
use Rattle.px_tree.specs.declared.nodes.Tree.{Tree}
use Rattle.px_tree.specs.declared.nodes.TreeEnd.{TreeEnd}
use Rattle.px_tree.specs.declared.nodes.TreeEnd.TheVariants.{Solved, Exhausted, More, ShapeLimit}
use Rattle.px_tree.specs.declared.nodes.TreeMove.{TreeMove}
use Rattle.px_tree.specs.declared.nodes.TreeNode.{TreeNode}
use Rattle.px_tree.specs.declared.nodes.TreeOrigin.{TreeOrigin}
use Rattle.px_search.proofs.FirstLimits.{asked_of}
use Rattle.px_ends.specs.Trees.{EndsTree, IsAskedAmong, IsFirstLimit, IsTree, TellsMove, TellsNode, TellsNodes, TellsOrigin, TreesAreOne, entry_told}

-- ---- lists

same-prefix : {A : Type 0} (xs ys rest : List A) → ys ≡ xs ++ rest → length xs ≡ length ys → xs ≡ ys
same-prefix xs ys [] is same = none-behind xs ∙ sym is
same-prefix xs ys (y ∷ rest) is same = absurd (omega (arith, same, ap length is, length-append xs (y ∷ rest)))

same-each : {A : Type 0} (xs ys : List A) → length xs ≡ length ys
    → ((k : ℕ) (x y : A) → slice_get xs k ≡ Some x → slice_get ys k ≡ Some y → x ≡ y) → xs ≡ ys
same-each [] [] e same = refl
same-each [] (y ∷ ys) e same = absurd (omega (arith, e))
same-each (x ∷ xs) [] e same = absurd (omega (arith, e))
same-each (x ∷ xs) (y ∷ ys) e same = cc (same 0 x y refl refl, same-each xs ys (omega (arith, e)) (λ k. same (suc k)))

same-last : {A : Type 0} (xs ys : List A) (x y : A) → xs ++ x ∷ [] ≡ ys ++ y ∷ [] → (xs ≡ ys) × (x ≡ y)
same-last [] [] x y e = (refl, cc)
same-last [] (b ∷ ys) x y e = absurd (omega (arith, ap length e, length-append ys (y ∷ [])))
same-last (a ∷ xs) [] x y e = absurd (omega (arith, ap length e, length-append xs (x ∷ [])))
same-last {A = A} (a ∷ xs) (b ∷ ys) x y e =
    let parts : (a ≡ b) × (xs ++ x ∷ [] ≡ ys ++ y ∷ []) = (cc, cc) in
    let r = same-last xs ys x y parts.1 in (cc (parts.0, r.0), r.1)

none-last : {A : Type 0} (xs : List A) (x : A) → ¬ ([] ≡ xs ++ x ∷ [])
none-last xs x e = omega (arith, ap length e, length-append xs (x ∷ []))

in-front : {A : Type 0} (n k : ℕ) (xs : List A) (x : A) → slice_get (take n xs) k ≡ Some x → slice_get xs k ≡ Some x
in-front zero k xs x e = absurd (cc)
in-front (suc n) k [] x e = absurd (cc)
in-front (suc n) zero (y ∷ xs) x e = e
in-front (suc n) (suc k) (y ∷ xs) x e = in-front n k xs x e

module _ (task : Task) (weight : ℕ) where
  linear : IsLinear (order_by task weight)
  linear = record { total = move_cmp-total; identical = move_cmp-same }

  total : (m n : Move) → IsLower (order_by task weight) m n ⊎ ((m ≡ n) ⊎ IsLower (order_by task weight) n m)
  total = lower-total (order_by task weight) linear

  abbrev pub IsBeginning : List (List Move) → Type 0
  IsBeginning found = Begins (space_of task) (order_by task weight) found

  -- of two lists of found lists that are as long
  begins-same : (found lists : List (List Move)) → IsBeginning found → IsBeginning lists → length found ≡ length lists → found ≡ lists
  begins-same found lists b c same = elim (order_of b.1.0 c.1.0) [
    | inl low ↦
        let r = prefixes (space_of task) (order_by task weight) total b.1.0 c.1.0 found lists b.0 c.0 (omega (arith, low)) b.1.1 c.1.1 in
        same-prefix found lists r.0 r.1 same
    | inr high ↦
        let r = prefixes (space_of task) (order_by task weight) total c.1.0 b.1.0 lists found c.0 b.0 high c.1.1 b.1.1 in
        sym (same-prefix lists found r.0 r.1 (sym same))
  ]

  -- ---- the end

  pub asked-begins : (found : List (List Move)) (moves : List Move) (question : Question)
      → IsAskedAmong task weight found moves question → IsBeginning found
  asked-begins found moves question (inl (gone, same, asks)) =
      subst (λ (l : List (List Move)). IsBeginning l) same (gone.place ∷ gone.picked, gone.comes)
  asked-begins found moves question (inr (tested, same, empty, is)) = subst (λ (l : List (List Move)). IsBeginning l) same tested.begins

  -- the found lists are the first of some that the search comes to
  pub record Within (found : List (List Move)) : Type 0 where
    pub all : List (List Move)
    pub begins : IsBeginning all
    pub rest : List (List Move)
    pub all_are : all ≡ found ++ rest

  within-all : (found : List (List Move)) → IsBeginning found → Within found
  within-all found b = record { all = found; begins = b; rest = []; all_are = none-behind found }

  pub within : (found : List (List Move)) (end : TreeEnd) → EndsTree task weight found end → Within found
  within found Solved (moves, end, is) = within-all found (subst (λ (l : List (List Move)). IsBeginning l) (sym is) end.stop.begins)
  within found Exhausted (end, is) =
      within-all found (subst (λ (l : List (List Move)). IsBeginning l) (sym is) (end.picked, end.over.comes))
  within found (More moves) end =
      record { all = found ++ end.last ∷ []; begins = end.stop.begins; rest = end.last ∷ []; all_are = refl }
  within found (ShapeLimit number) (limit, first, is) = within-all found (asked-begins found first.moves limit.question first.asked)

  abbrev pub Same : List (List Move) → List (List Move) → TreeEnd → TreeEnd → Type 0
  Same found lists end other = (found ≡ lists) × (end ≡ other)

  -- some question that is asked meets the limit
  pub not_asked : (found : List (List Move)) (limit : MetLimit) → IsFirstLimit task weight found limit
      → ¬ order_ends.IsUnlimited (space_of task) (order_by task weight) (aim_of task)
  not_asked found limit first unlimited =
      unlimited first.moves limit.question (asked_of task weight found first.moves limit.question first.asked)
      (limit.formula, limit.shapes, first.met)

  pub one-end : (found lists : List (List Move)) (end other : TreeEnd) → EndsTree task weight found end → EndsTree task weight lists other
      → Same found lists end other
  one-end found lists Solved Solved (ms, x, is) (ns, y, are) =
      let same = (one_stop (space_of task) (aim_of task)).stop (order_by task weight) linear x.earlier y.earlier ms ns x.stop y.stop in
      (is ∙ (λ i. same.0 i ++ same.1 i ∷ []) ∙ sym are, refl)
  one-end found lists Solved Exhausted (ms, x, is) (y, are) =
      absurd ((exhausted_in_all (space_of task) (aim_of task)).found (order_by task weight) (order_by task weight) y ms x)
  one-end found lists Solved (More n) (ms, x, is) y =
      absurd ((one_stop (space_of task) (aim_of task)).found_or_node_limit (order_by task weight) linear ms lists n x y)
  one-end found lists Solved (ShapeLimit n) (ms, x, is) (l, y, are) = absurd (not_asked lists l y x.unlimited)
  one-end found lists Exhausted Solved (x, is) (ns, y, are) =
      absurd ((exhausted_in_all (space_of task) (aim_of task)).found (order_by task weight) (order_by task weight) x ns y)
  one-end found lists Exhausted Exhausted (x, is) (y, are) = (
    begins-same found lists (subst (λ (l : List (List Move)). IsBeginning l) (sym is) (x.picked, x.over.comes))
        (subst (λ (l : List (List Move)). IsBeginning l) (sym are) (y.picked, y.over.comes))
        (omega (
          arith,
          ap length is,
          ap length are,
          no-more (space_of task) (order_by task weight) (order_by task weight) x.lists x.picked x.over y.lists (y.picked, y.over.comes),
          no-more (space_of task) (order_by task weight) (order_by task weight) y.lists y.picked y.over x.lists (x.picked, x.over.comes),
        )),
    refl,
  )
  one-end found lists Exhausted (More n) (x, is) y =
      absurd ((exhausted_in_all (space_of task) (aim_of task)).node_limit (order_by task weight) (order_by task weight) x lists n y)
  one-end found lists Exhausted (ShapeLimit n) (x, is) (l, y, are) = absurd (not_asked lists l y x.unlimited)
  one-end found lists (More n) Solved x (ns, y, are) =
      absurd ((one_stop (space_of task) (aim_of task)).found_or_node_limit (order_by task weight) linear ns found n y x)
  one-end found lists (More n) Exhausted x (y, are) =
      absurd ((exhausted_in_all (space_of task) (aim_of task)).node_limit (order_by task weight) (order_by task weight) y found n x)
  one-end found lists (More n) (More k) x y =
      let same = (one_stop (space_of task) (aim_of task)).node_limit (order_by task weight) linear found lists n k x y in
      (same.0, ap More same.1)
  one-end found lists (More n) (ShapeLimit k) x (l, y, are) = absurd (not_asked lists l y x.unlimited)
  one-end found lists (ShapeLimit n) Solved (l, x, is) (ns, y, are) = absurd (not_asked found l x y.unlimited)
  one-end found lists (ShapeLimit n) Exhausted (l, x, is) (y, are) = absurd (not_asked found l x y.unlimited)
  one-end found lists (ShapeLimit n) (More k) (l, x, is) y = absurd (not_asked found l x y.unlimited)
  one-end found lists (ShapeLimit n) (ShapeLimit k) (l, x, is) (m, y, are) = (
    begins-same found lists (asked-begins found x.moves l.question x.asked) (asked-begins lists y.moves m.question y.asked) long,
    ap ShapeLimit (is ∙ limit-count task.problem l.question l.formula l.shapes x.met
        ∙ sym (limit-count task.problem m.question m.formula m.shapes y.met) ∙ sym are),
  )
    where
      long : length found ≡ length lists
      long = elim (order_of (length found) (length lists)) [
        | inl less ↦ absurd (y.first found x.moves l.question less x.asked l.formula l.shapes x.met)
        | inr high ↦ elim (order_of (length lists) (length found)) [
          | inl less ↦ absurd (x.first lists y.moves m.question less y.asked m.formula m.shapes y.met)
          | inr low ↦ omega (arith, high, low)
        ]
      ]

  -- ---- the nodes

  one-move : (node : Node) (m : Move) (told other : TreeMove) → TellsMove task node m told → TellsMove task node m other → told ≡ other
  one-move node (Push entry) told other x y = x ∙ sym y
  one-move node Apply told other (e, below, is, x) (f, under, are, y) =
      x ∙ ap (entry_told task kinds.Apply) (top e f below under (sym is ∙ are)) ∙ sym y
    where
      top : (e f : Entry) (below under : List Entry) → e ∷ below ≡ f ∷ under → e ≡ f
      top e f below under same = cc

  module _ (found : List (List Move)) (w : Within found) where
    -- a list stands at one place
    one-place : (i j : ℕ) (p : List Move) → slice_get found i ≡ Some p → slice_get found j ≡ Some p → i ≡ j
    one-place i j p at_i at_j =
        once (space_of task) (order_by task weight) w.begins.1.0 w.all w.begins.0 w.begins.1.1 i j p p (there i at_i) (there j at_j) refl
      where
        there : (k : ℕ) → slice_get found k ≡ Some p → slice_get w.all k ≡ Some p
        there k at = ap (λ (l : List (List Move)). slice_get l k) w.all_are ∙ still_there found w.rest k p at

    one-origin : (place : ℕ) (moves : List Move) (origin other : Option TreeOrigin) → TellsOrigin task (take place found) moves origin
        → TellsOrigin task (take place found) moves other → origin ≡ other
    one-origin place moves None None x y = refl
    one-origin place moves None (Some b) x y = absurd (none-last y.0 y.1 (sym x ∙ y.2))
    one-origin place moves (Some a) None x y = absurd (none-last x.0 x.1 (sym y ∙ x.2))
    one-origin place moves (Some a) (Some b) (p, m, is, at, told) (q, n, are, at_b, told_b) =
        let same = same-last p q m n (sym is ∙ are) in
        let parent : a.parent ≡ b.parent =
        one-place a.parent b.parent p (in-front place a.parent found p at)
        (in-front place b.parent found p (at_b ∙ ap Some (sym same.0))) in
        let last : a.last ≡ b.last =
        one-move (node_of task p) m a.last b.last told
        (subst (λ (k : Move). TellsMove task (node_of task p) k b.last) (sym same.1)
        (subst (λ (l : List Move). TellsMove task (node_of task l) n b.last) (sym same.0) told_b)) in
        (λ i. Some (record { parent = parent i; last = last i }))

    one-node : (place : ℕ) (moves : List Move) (node other : TreeNode) → TellsNode task (take place found) moves node
        → TellsNode task (take place found) moves other → node ≡ other
    one-node place moves node other x y =
        let origin = one-origin place moves node.origin other.origin x.origin y.origin in
        let needs : node.needs ≡ other.needs = x.needs_are ∙ sym y.needs_are in
        (λ i. record { origin = origin i; needs = needs i })

    one-list : (nodes others : List TreeNode) → length nodes ≡ length found → length others ≡ length found → TellsNodes task found nodes
        → TellsNodes task found others → nodes ≡ others
    one-list nodes others long long' x y =
        same-each nodes others (long ∙ sym long')
        (λ k node other at at'.
        let moves = at_index found k [] (omega (arith, long, place-within-list nodes k node at)) in
        one-node k (slice_index_or found k []) node other (x k node (slice_index_or found k []) at moves)
        (y k other (slice_index_or found k []) at' moves))

  one-tree : (tree other : Tree) → IsTree task weight tree → IsTree task weight other → tree ≡ other
  one-tree tree other x y =
      let ends = one-end x.found y.found tree.end other.end x.end y.end in
      let nodes : tree.nodes ≡ other.nodes =
      one-list x.found (within x.found tree.end x.end) tree.nodes other.nodes x.count (y.count ∙ ap length (sym ends.0)) x.nodes
      (subst (λ (l : List (List Move)). TellsNodes task l other.nodes) (sym ends.0) y.nodes) in
      (λ i. record { nodes = nodes i; end = ends.1 i })

pub trees_are_one : TreesAreOne
trees_are_one task weight tree other x y = one-tree task weight tree other x y
