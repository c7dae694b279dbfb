-- The first move of a node to a node that isn't found, and a node all of whose moves were made.
use Rattle.std.proofs.Common.{◌≡◌, ℕ, zero, suc, ◌<◌, List, [], ◌∷◌, take, sym, ◌∙◌, ap, subst, inl, inr, arith, Some, slice_get, slice_index_or}
use Rattle.std.specs.declared.cmp.Ordering.TheVariants.{Less, Equal}
use Rattle.std.specs.Cmp.{tied_itself}
use Rattle.px_table.specs.declared.entry.Move.{Move}
use Rattle.px_order.specs.Places.{at_index, contains_place, order_of as place_order, place_of, place-within-list}
use Rattle.px_order.specs.Runs.{IsNew, Reaches}
use Rattle.px_ends.proofs.MoveLaws.{move_cmp-total}
use Rattle.px_ends.specs.ByValue.{space_of}
use Rattle.px_ends.specs.Ends.{node_of}
use Rattle.px_ends.specs.Order.{move_cmp}
use Rattle.px_ends.specs.Tasks.{Task, after}
use Rattle.px_search.specs.Going.{AreFirstOf}
use Rattle.px_search.specs.Searching.{IsMaking, order_of}

take-get : {A : Type 0} (n k : ℕ) (xs : List A) (x : A) → slice_get xs k ≡ Some x → k < n → slice_get (take n xs) k ≡ Some x
take-get zero k xs x e h = absurd (omega arith)
take-get (suc n) k [] x e h = absurd (cc)
take-get (suc n) zero (y ∷ xs) x e h = e
take-get (suc n) (suc k) (y ∷ xs) x e h = take-get n k xs x e (omega arith)

index_is : {A : Type 0} (xs : List A) (k : ℕ) (x d : A) → slice_get xs k ≡ Some x → slice_index_or xs k d ≡ x
index_is xs k x d e = cc (at_index xs k d (place-within-list xs k x e), e)

pub never_less : (m : Move) → ¬ (move_cmp m m ≡ Less)
never_less m h = let e : Less ≡ Equal = sym h ∙ tied_itself move_cmp-total m in cc

pub never_both : (m n : Move) → move_cmp m n ≡ Less → ¬ (move_cmp n m ≡ Less)
never_both m n low high = never_less m (move_cmp-total.trans m n m low high)

module _ (task : Task) (found : List (List Move)) (place : ℕ) (picked : List ℕ) (p : List Move)
    (at : slice_get found place ≡ Some p) (moves : List Move) (are : AreFirstOf task (node_of task p) moves) where
  pair : (k l : ℕ) (a b : Move) → k < l → slice_get moves k ≡ Some a → slice_get moves l ≡ Some b → move_cmp a b ≡ Less
  pair k l a b less at_a at_b =
      let is = are.ordered k l a less (place-within-list moves l b at_b) in
      subst (λ (x : Move). move_cmp a x ≡ Less) (index_is moves l b a at_b)
      (subst (λ (x : Move). move_cmp x (slice_index_or moves l a) ≡ Less) (index_is moves k a a at_a) is)

  -- the move that isn't made yet leads to a node that isn't found: then it is the first such
  pub first_new : (i : ℕ) (m : Move) → IsMaking task found place picked (take i moves) → slice_get moves i ≡ Some m
      → (¬ Reaches (space_of task) (order_of task) found (after task (node_of task p) m))
      → IsNew (space_of task) (order_of task) found p m
  first_new i m making at_m new = record {
    allowed = are.allowed m (contains_place moves i m at_m);
    new = new;
    first = λ n can lower. elim (are.others n can) [
      | inl has ↦ made_before n lower (place_of moves n has)
      | inr after_all ↦ absurd (never_both m n (after_all m (contains_place moves i m at_m)) lower)
    ];
  }
    where
      made_before : (n : Move) → move_cmp n m ≡ Less → (k : ℕ) × (slice_get moves k ≡ Some n)
          → Reaches (space_of task) (order_of task) found (after task (node_of task p) n)
      made_before n lower (k, at_k) = elim (place_order k i) [
        | inl less ↦ making.made p n at (contains_place (take i moves) k n (take-get i k moves n at_k less))
        | inr more ↦ elim (place_order i k) [
          | inl above ↦ absurd (never_both m n (pair i k m n above at_m at_k) lower)
          | inr below ↦
              let number : k ≡ i = omega (arith, more, below) in
              let e : n ≡ m = cc (ap (slice_get moves) number, at_k, at_m) in
              absurd (never_less m (subst (λ (x : Move). move_cmp x m ≡ Less) e lower))
        ]
      ]
