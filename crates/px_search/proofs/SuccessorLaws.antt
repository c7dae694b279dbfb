-- The first of the moves of a node, and all of them.
use Rattle.std.proofs.Common.{◌≡◌, ◌⊎◌, ℕ, Bool, true, suc, ◌≤◌, List, [], ◌∷◌, take, length, refl, sym, ◌∙◌, ap, subst, inl, inr, arith, Some, slice_get, Contains}
use Rattle.std.specs.Prelude.{AllPairs}
use Rattle.std.specs.declared.cmp.Ordering.TheVariants.{Less}
use Rattle.std.proofs.lemmas.List.{take_all}
use Rattle.std.proofs.lemmas.List.Elements.{All-contains}
use Rattle.px_base.specs.ListLaws.{Contains-none, Contains-first, Contains-later, Contains-cases}
use Rattle.px_gaps.specs.declared.question.MetLimit.{MetLimit}
use Rattle.px_table.specs.declared.entry.Move.{Move}
use Rattle.px_table.specs.declared.node.Node.{Node}
use Rattle.px_ends.specs.Order.{move_cmp}
use Rattle.px_ends.specs.Ends.{node_of}
use Rattle.px_ends.specs.Tasks.{Task}
use Rattle.px_numbers.specs.declared.nodes.NodeKey.{NodeKey}
use Rattle.px_numbers.specs.Numbers.{Kept, IsKeyOf, KeepsAll}
use Rattle.px_search.specs.declared.picker.Picker.{Picker}
use Rattle.px_search.specs.declared.step.Step.{Step}
use Rattle.px_search.specs.declared.step.Origin.{Origin}
use Rattle.px_search.specs.Going.{AreFirstOf, AreMovesOf, IsGoneOn, LimitsNode}
use Rattle.px_search.specs.Looping.{Trying}
use Rattle.px_search.specs.Searching.{IsMaking}
use Rattle.px_search.proofs.BeginningLaws.{all-successors}
use Rattle.px_search.proofs.FirstMoves.{never_both, never_less}
use Rattle.px_search.proofs.GoingLaws.{going-grows, same_here}
use Rattle.px_search.proofs.StepLaws.{steps-count}

-- ---- moves strictly in order

abbrev pub AreInOrder : List Move → Type 0
AreInOrder moves = AllPairs (λ m n. move_cmp m n ≡ Less) moves

head-less : (m : Move) (ms : List Move) → AreInOrder (m ∷ ms) → (n : Move) → Contains ms n → move_cmp m n ≡ Less
head-less m ms ordered n has =
    All-contains (λ (x : Move). move_cmp m x ≡ Less) ms n (λ k d below. ordered 0 (suc k) d (omega arith) (omega (arith, below))) has

tail-ordered : (m : Move) (ms : List Move) → AreInOrder (m ∷ ms) → AreInOrder ms
tail-ordered m ms ordered i j d less below = ordered (suc i) (suc j) d (omega (arith, less)) (omega (arith, below))

-- each of the larger list is among the smaller one, or after all of it
abbrev pub IsOrAfter : List Move → List Move → Type 0
IsOrAfter firsts whole = (m : Move) → Contains whole m → Contains firsts m ⊎ ((n : Move) → Contains firsts n → move_cmp n m ≡ Less)

-- the first of both is the same
heads-same : (x y : Move) (xs ys : List Move) → AreInOrder (x ∷ xs) → AreInOrder (y ∷ ys) → Contains (y ∷ ys) x
    → IsOrAfter (x ∷ xs) (y ∷ ys) → x ≡ y
heads-same x y xs ys xs_ordered ys_ordered inside others = elim (Contains-cases y ys x inside) [
  | inl same ↦ sym same
  | inr later ↦ absurd (not_later later)
]
  where
    not_later : ¬ Contains ys x
    not_later later = elim (others y (Contains-first y ys)) [
      | inl has ↦ elim (Contains-cases x xs y has) [
        | inl same ↦ never_less y (subst (λ (z : Move). move_cmp y z ≡ Less) same (head-less y ys ys_ordered x later))
        | inr after ↦ never_both x y (head-less x xs xs_ordered y after) (head-less y ys ys_ordered x later)
      ]
      | inr after_all ↦ never_both x y (after_all x (Contains-first x xs)) (head-less y ys ys_ordered x later)
    ]

-- The first of a list: both are strictly in order, one is inside the other, and the rest of that comes after it.
pub firsts-are_taken : (firsts whole : List Move) → AreInOrder firsts → AreInOrder whole
    → ((m : Move) → Contains firsts m → Contains whole m) → IsOrAfter firsts whole → take (length firsts) whole ≡ firsts
firsts-are_taken [] whole f_ordered w_ordered inside others = refl
firsts-are_taken (x ∷ xs) [] f_ordered w_ordered inside others = absurd (Contains-none x (inside x (Contains-first x xs)))
firsts-are_taken (x ∷ xs) (y ∷ ys) f_ordered w_ordered inside others =
    ap (λ (z : Move). z ∷ take (length xs) ys) (sym same)
    ∙ ap (λ (l : List Move). x ∷ l) (firsts-are_taken xs ys (tail-ordered x xs f_ordered)
    (tail-ordered y ys w_ordered) tail_inside tail_others)
  where
    same : x ≡ y
    same = heads-same x y xs ys f_ordered w_ordered (inside x (Contains-first x xs)) others

    tail_inside : (m : Move) → Contains xs m → Contains ys m
    tail_inside m has = elim (Contains-cases y ys m (inside m (Contains-later x xs m has))) [
      | inl is ↦ absurd (never_less x (subst (λ (z : Move). move_cmp x z ≡ Less) (sym (same ∙ is)) (head-less x xs f_ordered m has)))
      | inr later ↦ later
    ]

    tail_others : (m : Move) → Contains ys m → Contains xs m ⊎ ((n : Move) → Contains xs n → move_cmp n m ≡ Less)
    tail_others m has = elim (others m (Contains-later y ys m has)) [
      | inl inside' ↦ elim (Contains-cases x xs m inside') [
        | inl is ↦ absurd (never_less y (subst (λ (z : Move). move_cmp y z ≡ Less) (sym is ∙ same) (head-less y ys w_ordered m has)))
        | inr later ↦ inl later
      ]
      | inr after_all ↦ inr (λ n has'. after_all n (Contains-later x xs n has'))
    ]

pub firsts-count : (firsts whole : List Move) → take (length firsts) whole ≡ firsts → length firsts ≤ length whole
firsts-count [] whole is = omega arith
firsts-count (x ∷ xs) [] is = absurd (cc)
firsts-count (x ∷ xs) (y ∷ ys) is =
    let rest : take (length xs) ys ≡ xs = cc in
    let below = firsts-count xs ys rest in
    omega (arith, below)

module _ (task : Task) where
  -- ---- from the first moves to all

  -- the first moves are the first of all
  pub firsts-of_all : (node : Node) (firsts whole : List Move) → AreFirstOf task node firsts → AreMovesOf task node whole
      → take (length firsts) whole ≡ firsts
  firsts-of_all node firsts whole first all =
      firsts-are_taken firsts whole first.ordered all.ordered (λ m has. (all.all m).0 (first.allowed m has))
      (λ m has. first.others m ((all.all m).1 has))

  module _ {old : Kept} {keys : List NodeKey} {origins : List Origin} {picker : Picker} {picked : List ℕ} {next : ℕ}
      {steps : List Step} {is_all : Bool} {from : ℕ} {key : NodeKey} (t : Trying task old keys origins picker picked next steps is_all from)
      (from_is : from ≡ length steps) (at : slice_get keys next ≡ Some key) where
    abbrev node_here : Node
    node_here = node_of task t.list

    -- none of the questions of the node meets the limit
    pub unlimited-here : (limit : MetLimit) → ¬ ((node : Node) → IsKeyOf old key node → LimitsNode task node limit)
    unlimited-here limit limits =
        let l = limits node_here (same_here task t at) in
        t.successors.unlimited limit.question l.asked limit.formula limit.shapes l.met

    module _ {new : Kept} (whole : List Step) (gone : (node : Node) → IsKeyOf old key node → IsGoneOn task new node whole) where
      abbrev all_here : IsGoneOn task new node_here whole
      all_here = gone node_here (same_here task t at)

      from_moves : from ≡ length t.successors.moves
      from_moves = from_is ∙ steps-count old steps t.successors.moves t.successors.steps_are

      taken : take (length t.successors.moves) all_here.moves ≡ t.successors.moves
      taken = firsts-of_all node_here t.successors.moves all_here.moves t.successors.are all_here.are

      pub others-from : from ≤ length whole
      others-from =
          omega (
            arith,
            from_moves,
            firsts-count t.successors.moves all_here.moves taken,
            steps-count new whole all_here.moves all_here.steps_are,
          )

      -- as many of all moves were tried
      same_tried : take from t.successors.moves ≡ take from all_here.moves
      same_tried =
          take_all from t.successors.moves (omega (arith, from_moves)) ∙ sym taken ∙ ap (λ (n : ℕ). take n all_here.moves) (sym from_moves)

      pub trying-others : KeepsAll old new → Trying task new keys origins picker picked next whole true from
      trying-others keeps = record {
        list = t.list;
        successors = all-successors task new node_here whole true all_here;
        going = going-grows task keeps (record {
          found = t.going.found;
          making = subst (λ (l : List Move). IsMaking task t.going.found next picked l) same_tried t.going.making;
          numbered = t.going.numbered;
          picking = t.going.picking;
        });
        list_at = t.list_at;
      }
