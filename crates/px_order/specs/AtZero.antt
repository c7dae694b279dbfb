-- At weight 0 the lists that stand no later than the one from which the stop is found were gone through.
use Rattle.std.proofs.Common.{◌≡◌, ℕ, suc, ◌<◌, ◌≤◌, List, [], ◌∷◌, ◌++◌, length, refl, sym, ◌∙◌, ap, subst, inl, inr, arith, Some, slice_get, slice_index_or, Contains}
use Rattle.px_order.specs.Spaces.{Space, Order, IsLower, blind, at, IsLeast, IsBeginning}
use Rattle.px_order.specs.Places.{order_of, place_of, contains_place, place-within-list, at_index, still_there, some-one, push-cases, head-of, tail-of, at_end, get-prefix}
use Rattle.px_order.specs.RunLaws.{once, behind}
use Rattle.px_order.specs.RunOrigins.{PickedAt, picked-at, origins}
use Rattle.px_order.specs.Frontier.{IsMoveOrder}
use Rattle.px_order.specs.Breadth.{IsByLength, down_from, down_from-has, down_from-below, in_order, begins-least}
use Rattle.px_order.specs.Ends.{Aim, IsStop, IsGoneThrough}

-- lists that end in a move
pub push-parts : {A : Type 0} (p q : List A) (m n : A) → p ++ m ∷ [] ≡ q ++ n ∷ [] → p ≡ q
push-parts [] [] m n e = refl
push-parts [] (y ∷ []) m n e = absurd (cc)
push-parts [] (y ∷ z ∷ q) m n e = absurd (cc)
push-parts (x ∷ []) [] m n e = absurd (cc)
push-parts (x ∷ z ∷ p) [] m n e = absurd (cc)
push-parts (x ∷ p) (y ∷ q) m n e =
    let h : (p ++ m ∷ [] ≡ q ++ n ∷ []) × (x ≡ y) = (cc, cc) in let r = push-parts p q m n h.0 in cc (r, h.1)

pub no_end : {A : Type 0} (p : List A) (m : A) → ¬ ([] ≡ p ++ m ∷ [])
no_end [] m e = cc
no_end (x ∷ p) m e = cc

module _ {N M Q : Type 0} (space : Space N M) (before : List M → List M → Type 0) (sound : IsMoveOrder before) (order : Order N M)
    (by_length : IsByLength before (IsLower order)) (aim : Aim N Q) where
  abbrev Stop : List (List M) → List M → Type 0
  Stop earlier last = IsStop space (blind order) aim earlier last

  abbrev Gone : List M → Type 0
  Gone moves = IsGoneThrough space (blind order) aim moves

  -- The moves are the least list to their node, and the stop's last move is made from no node before it.
  module _ (earlier : List (List M)) (last : List M) (stop : Stop earlier last) (parent : List M) (m : M)
      (made_from : last ≡ parent ++ m ∷ []) (moves : List M) (least : IsLeast space before space.start moves) (early : ¬ before parent moves) where
    abbrev all : List (List M)
    all = earlier ++ last ∷ []

    abbrev steps : ℕ
    steps = stop.begins.1.0

    abbrev picked : List ℕ
    picked = stop.begins.0

    is_beginning : IsBeginning space before space.start all
    is_beginning = begins-least space before sound order by_length all stop.begins

    -- the parent of the stop was picked
    parent-at : (place : ℕ) × (slice_get all place ≡ Some parent) × Contains picked place
    parent-at = elim (origins space (blind order) steps all picked stop.begins.1.1 (length earlier) last (at_end earlier last)) [
      | inl first ↦ absurd (no_end parent m (first.1 ∙ made_from))
      | inr h ↦
          let same : h.parent ≡ parent = push-parts h.parent parent h.m m (sym h.moves_are ∙ made_from) in
          (h.place, h.stands ∙ ap Some same, h.is_picked)
    ]

    moves-at : (place : ℕ) × (slice_get all place ≡ Some moves) × (place ≤ parent-at.0)
    moves-at = elim (sound.total moves parent) [
      | inl less ↦
          let has = is_beginning.closed moves parent (contains_place all parent-at.0 parent parent-at.1) least less in
          let place = place_of all moves has in
          (place.0, place.1, not_later place.0 place.1 less)
      | inr (inl e) ↦ (parent-at.0, parent-at.1 ∙ ap Some (sym e), omega arith)
      | inr (inr more) ↦ absurd (early more)
    ]
      where
        not_later : (k : ℕ) → slice_get all k ≡ Some moves → before moves parent → k ≤ parent-at.0
        not_later k at less = elim (order_of parent-at.0 k) [
          | inl more ↦
              let inside = place-within-list all k moves at in
              let ascends = is_beginning.ascending parent-at.0 k moves more inside in
              let one : slice_index_or all parent-at.0 moves ≡ parent =
              some-one _ parent (sym (at_index all parent-at.0 moves (omega (arith, more, inside))) ∙ parent-at.1) in
              let two : slice_index_or all k moves ≡ moves = some-one _ moves (sym (at_index all k moves inside) ∙ at) in
              absurd (sound.irreflexive moves (sound.transitive moves parent moves less
              (subst (λ (l : List M). before l moves) one
              (subst (λ (l : List M). before (slice_index_or all parent-at.0 moves) l) two ascends))))
          | inr fewer ↦ fewer
        ]

    -- its place was picked
    place-picked : Contains picked moves-at.0
    place-picked = elim (in_order space before sound order by_length steps all picked stop.begins.1.1) [
      | inl first ↦ absurd (none (subst (λ (l : List ℕ). Contains l parent-at.0) first.1 parent-at.2))
      | inr going ↦
          let below = down_from-below (suc going.next) parent-at.0
          (subst (λ (l : List ℕ). Contains l parent-at.0) going.picked_is parent-at.2) in
          subst (λ (l : List ℕ). Contains l moves-at.0) (sym going.picked_is)
          (down_from-has (suc going.next) moves-at.0 (omega (arith, below, moves-at.2)))
    ]
      where
        none : {k : ℕ} → ¬ Contains [] k
        none h = omega (arith, h.1)

    module _ (s : PickedAt space (blind order) all moves-at.0) where
      below : moves-at.0 < length s.lists
      below = (behind space (blind order) s.comes.0 s.lists (moves-at.0 ∷ s.earlier) s.comes.1).within moves-at.0 (0, omega arith, refl)

      picked-below : (k : ℕ) → Contains s.earlier k → k < moves-at.0
      picked-below k has = elim (in_order space before sound order by_length s.comes.0 s.lists (moves-at.0 ∷ s.earlier) s.comes.1) [
        | inl first ↦ absurd (none moves-at.0 s.earlier first.1)
        | inr going ↦
            let number : moves-at.0 ≡ going.next = head-of moves-at.0 going.next s.earlier (down_from going.next) going.picked_is in
            let tail : s.earlier ≡ down_from going.next = tail-of moves-at.0 going.next s.earlier (down_from going.next) going.picked_is in
            omega (arith, number, down_from-below going.next k (subst (λ (l : List ℕ). Contains l k) tail has))
      ]
        where
          none : (a : ℕ) (xs : List ℕ) → ¬ (a ∷ xs ≡ [])
          none a xs e = cc

      -- the stop wasn't found yet
      fewer : length s.lists ≤ length earlier
      fewer = elim (order_of (length earlier) (length s.lists)) [
        | inl more ↦
            let here : slice_get s.lists (length earlier) ≡ Some last =
            get-prefix s.lists s.rest (length earlier) last more
            (ap (λ (l : List (List M)). slice_get l (length earlier)) (sym s.found_is) ∙ at_end earlier last) in
            elim (origins space (blind order) s.before.0 s.lists s.earlier s.before.1 (length earlier) last here) [
              | inl first ↦ absurd (no_end parent m (first.1 ∙ made_from))
              | inr h ↦
                  let same : h.parent ≡ parent = push-parts h.parent parent h.m m (sym h.moves_are ∙ made_from) in
                  let there : slice_get all h.place ≡ Some h.parent =
                  ap (λ (l : List (List M)). slice_get l h.place) s.found_is ∙ still_there s.lists s.rest h.place h.parent h.stands in
                  let place : h.place ≡ parent-at.0 =
                  once space (blind order) steps all picked stop.begins.1.1 h.place parent-at.0 h.parent parent there parent-at.1
                  (ap (λ (l : List M). at space l) same) in
                  absurd (omega (arith, place, picked-below h.place h.is_picked, moves-at.2))
            ]
        | inr h ↦ h
      ]

      among : (l : List M) → Contains s.lists l → Contains earlier l
      among l has =
          let place = place_of s.lists l has in
          let there : slice_get all place.0 ≡ Some l =
          ap (λ (z : List (List M)). slice_get z place.0) s.found_is ∙ still_there s.lists s.rest place.0 l place.1 in
          elim (push-cases earlier last l place.0 there) [
            | inl old ↦ contains_place earlier place.0 l old
            | inr end ↦ absurd (omega (arith, end.0, fewer, place-within-list s.lists place.0 l place.1))
          ]

      gone-so : Gone moves
      gone-so = record {
        found = s.lists;
        place = moves-at.0;
        picked = s.earlier;
        comes = s.comes;
        stands = get-prefix s.lists s.rest moves-at.0 moves below
            (ap (λ (l : List (List M)). slice_get l moves-at.0) (sym s.found_is) ∙ moves-at.1);
        unsolved = λ l has. stop.unsolved l (among l has);
        room = omega (arith, fewer, stop.room);
      }

    -- so it is gone through by the order's definition
    pub least-gone : Gone moves
    least-gone = gone-so (picked-at space (blind order) steps all picked stop.begins.1.1 moves-at.0 place-picked)
