-- Two beginnings of the list of all nodes in order agree as far as both go; and the front of a least list is a least list.
use Rattle.std.proofs.Common.{◌≡◌, ℕ, zero, suc, ◌<◌, List, [], ◌∷◌, ◌++◌, sym, ◌∙◌, ap, subst, inl, inr, arith, Some, slice_get, slice_index_or}
use Rattle.px_order.specs.Spaces.{Space, CanMake, reached, IsLeast, IsBeginning}
use Rattle.px_order.specs.Places.{order_of, place_of, contains_place, place-within-list, at_index}
use Rattle.px_order.specs.Frontier.{IsMoveOrder, CanMake-append, reached-append}

module _ {N M : Type 0} (space : Space N M) (before : List M → List M → Type 0) (sound : IsMoveOrder before) where
  abbrev Begins : List (List M) → Type 0
  Begins lists = IsBeginning space before space.start lists

  pub places_ascend : (xs : List (List M)) → Begins xs → (i j : ℕ) (p q : List M) → i < j → slice_get xs i ≡ Some p
      → slice_get xs j ≡ Some q → before p q
  places_ascend xs b i j p q less at_i at_j =
      let inside = place-within-list xs j q at_j in
      let asc = b.ascending i j p less inside in
      let e_i : slice_index_or xs i p ≡ p = cc (at_index xs i p (omega (arith, inside)), at_i) in
      let e_j : slice_index_or xs j p ≡ q = cc (at_index xs j p inside, at_j) in
      subst (λ (x : List M). before x q) e_i (subst (λ (x : List M). before (slice_index_or xs i p) x) e_j asc)

  -- a list at a place of one stands at no later place of the other, where the earlier places agree
  not_less : (xs ys : List (List M)) → Begins xs → Begins ys → (k : ℕ) (p q : List M) → slice_get xs k ≡ Some p → slice_get ys k ≡ Some q
      → ((j : ℕ) (r s : List M) → j < k → slice_get xs j ≡ Some r → slice_get ys j ≡ Some s → r ≡ s) → ¬ before p q
  not_less xs ys bx by k p q at_x at_y same less =
      let has = by.closed p q (contains_place ys k q at_y) (bx.least p (contains_place xs k p at_x)) less in
      let place = place_of ys p has in
      elim (order_of place.0 k) [
        | inl lower ↦
            let x_at = at_index xs place.0 p (omega (arith, place-within-list xs k p at_x)) in
            let e : slice_index_or xs place.0 p ≡ p = same place.0 _ p lower x_at place.1 in
            sound.irreflexive p (places_ascend xs bx place.0 k p p lower (x_at ∙ ap Some e) at_x)
        | inr not_lower ↦ elim (order_of k place.0) [
          | inl higher ↦ sound.irreflexive p (sound.transitive p q p less (places_ascend ys by k place.0 q p higher at_y place.1))
          | inr not_higher ↦
              let number : place.0 ≡ k = omega arith in
              let e : p ≡ q = cc (ap (slice_get ys) number, place.1, at_y) in
              sound.irreflexive q (subst (λ (x : List M). before x q) e less)
        ]
      ]

  agree_below : (xs ys : List (List M)) → Begins xs → Begins ys → (bound k : ℕ) (p q : List M) → k < bound → slice_get xs k ≡ Some p
      → slice_get ys k ≡ Some q → p ≡ q
  agree_below xs ys bx by zero k p q h at_x at_y = absurd (omega arith)
  agree_below xs ys bx by (suc bound) k p q h at_x at_y =
      let lower : (j : ℕ) (r s : List M) → j < k → slice_get xs j ≡ Some r → slice_get ys j ≡ Some s → r ≡ s =
      λ j r s less x_at y_at. agree_below xs ys bx by bound j r s (omega arith) x_at y_at in
      elim (sound.total p q) [
        | inl less ↦ absurd (not_less xs ys bx by k p q at_x at_y lower less)
        | inr (inl e) ↦ e
        | inr (inr more) ↦ absurd (not_less ys xs by bx k q p at_y at_x (λ j r s l x_at y_at. sym (lower j s r l y_at x_at)) more)
      ]

  pub beginnings_agree : (xs ys : List (List M)) → Begins xs → Begins ys → (k : ℕ) (p q : List M) → slice_get xs k ≡ Some p
      → slice_get ys k ≡ Some q → p ≡ q
  beginnings_agree xs ys bx by k p q at_x at_y = agree_below xs ys bx by (suc k) k p q (omega arith) at_x at_y

  -- so a list of moves has one place
  pub one_place : (xs ys : List (List M)) → Begins xs → Begins ys → (i j : ℕ) (p : List M) → slice_get xs i ≡ Some p
      → slice_get ys j ≡ Some p → i ≡ j
  one_place xs ys bx by i j p at_x at_y = elim (order_of i j) [
    | inl less ↦
        let y_at = at_index ys i p (omega (arith, place-within-list ys j p at_y)) in
        let e = beginnings_agree xs ys bx by i p (slice_index_or ys i p) at_x y_at in
        absurd (sound.irreflexive p (places_ascend ys by i j p p less (y_at ∙ ap Some (sym e)) at_y))
    | inr not_less' ↦ elim (order_of j i) [
      | inl more ↦
          let x_at = at_index xs j p (omega (arith, place-within-list xs i p at_x)) in
          let e = beginnings_agree xs ys bx by j (slice_index_or xs j p) p x_at at_y in
          absurd (sound.irreflexive p (places_ascend xs bx j i p p more (x_at ∙ ap Some e) at_x))
      | inr not_more ↦ omega arith
    ]
  ]

  -- ---- moves without the last one

  pub can-prefix : (from : N) (ms : List M) (m : M) → CanMake space from (ms ++ m ∷ [])
      → CanMake space from ms × space.allows (reached space from ms) m
  can-prefix from [] m can = (tt, can.0)
  can-prefix from (k ∷ ms) m can = let rest = can-prefix (space.after from k) ms m can.1 in ((can.0, rest.0), rest.1)

  pub prefix-least : (ms : List M) (m : M) → IsLeast space before space.start (ms ++ m ∷ []) → IsLeast space before space.start ms
  prefix-least ms m least =
      let can = can-prefix space.start ms m least.made in
      record {
        made = can.0;
        least = λ others made same less.
            least.least (others ++ m ∷ [])
            (CanMake-append space before sound space.start others m made (subst (λ (n : N). space.allows n m) (sym same) can.1))
            (reached-append space before sound space.start others (m ∷ []) ∙ ap (λ (n : N). space.after n m) same
            ∙ sym (reached-append space before sound space.start ms (m ∷ [])))
            (sound.goes_on others ms m m less);
      }
