-- The nodes on the way to a stop were gone through.
use Rattle.std.proofs.Common.{◌≡◌, ℕ, zero, suc, ◌<◌, ◌≤◌, List, [], ◌∷◌, ◌++◌, length, refl, sym, ◌∙◌, ap, subst, inl, inr, arith, Some, slice_get, Contains, append_assoc}
use Rattle.px_order.specs.AtZero.{push-parts, no_end}
use Rattle.px_order.specs.Ends.{Aim, IsStop, IsGoneThrough}
use Rattle.px_order.specs.Places.{order_of, place_of, contains_place, place-within-list, push-cases, still_there, at_end, get-prefix}
use Rattle.px_order.specs.RunLaws.{behind, once}
use Rattle.px_order.specs.RunOrigins.{From, PickedAt, origins, picked-at}
use Rattle.px_order.specs.Spaces.{Space, Order, at}

-- a list with items has a last one
split-last : {A : Type 0} (m : A) (rest : List A) → (prefix : List A) × (last : A) × (m ∷ rest ≡ prefix ++ last ∷ [])
split-last m [] = ([], m, refl)
split-last {A = A} m (k ∷ rest) = let r = split-last k rest in (m ∷ r.0, r.1, ap (λ (l : List A). m ∷ l) r.2)

module _ {N M Q : Type 0} (space : Space N M) (order : Order N M) (aim : Aim N Q) (earlier : List (List M)) (last : List M)
    (stop : IsStop space order aim earlier last) where
  abbrev all : List (List M)
  all = earlier ++ last ∷ []

  abbrev steps : ℕ
  steps = stop.begins.1.0

  abbrev picked : List ℕ
  picked = stop.begins.0

  abbrev Gone : List M → Type 0
  Gone moves = IsGoneThrough space order aim moves

  -- what a list at a place comes from
  module _ (k : ℕ) (moves : List M) (stands : slice_get all k ≡ Some moves) (low : k ≤ length earlier)
      (from : From space order all picked k moves) (s : PickedAt space order all from.place) where
    below : from.place < length s.lists
    below = (behind space order s.comes.0 s.lists (from.place ∷ s.earlier) s.comes.1).within from.place (0, omega arith, refl)

    -- the list wasn't found yet when its prefix was picked
    fewer : length s.lists ≤ k
    fewer = elim (order_of k (length s.lists)) [
      | inl more ↦
          let here : slice_get s.lists k ≡ Some moves =
          get-prefix s.lists s.rest k moves more (ap (λ (l : List (List M)). slice_get l k) (sym s.found_is) ∙ stands) in
          elim (origins space order s.before.0 s.lists s.earlier s.before.1 k moves here) [
            | inl first ↦ absurd (no_end from.parent from.m (first.1 ∙ from.moves_are))
            | inr h ↦
                let same : h.parent ≡ from.parent = push-parts h.parent from.parent h.m from.m (sym h.moves_are ∙ from.moves_are) in
                let there : slice_get all h.place ≡ Some h.parent =
                ap (λ (l : List (List M)). slice_get l h.place) s.found_is ∙ still_there s.lists s.rest h.place h.parent h.stands in
                let place : h.place ≡ from.place =
                once space order steps all picked stop.begins.1.1 h.place from.place h.parent from.parent there from.stands
                (ap (λ (l : List M). at space l) same) in
                absurd (s.fresh (again h.place place h.is_picked))
          ]
      | inr h ↦ h
    ]
      where
        again : (j : ℕ) → j ≡ from.place → Contains s.earlier j → Contains s.earlier from.place
        again j e has = subst (λ (n : ℕ). Contains s.earlier n) e has

    among : (l : List M) → Contains s.lists l → Contains earlier l
    among l has =
        let place = place_of s.lists l has in
        let there : slice_get all place.0 ≡ Some l =
        ap (λ (z : List (List M)). slice_get z place.0) s.found_is ∙ still_there s.lists s.rest place.0 l place.1 in
        elim (push-cases earlier last l place.0 there) [
          | inl old ↦ contains_place earlier place.0 l old
          | inr end ↦ absurd (omega (arith, end.0, fewer, low, place-within-list s.lists place.0 l place.1))
        ]

    parent-gone : Gone from.parent
    parent-gone = record {
      found = s.lists;
      place = from.place;
      picked = s.earlier;
      comes = s.comes;
      stands = get-prefix s.lists s.rest from.place from.parent below
          (ap (λ (l : List (List M)). slice_get l from.place) (sym s.found_is) ∙ from.stands);
      unsolved = λ l has. stop.unsolved l (among l has);
      room = omega (arith, fewer, low, stop.room);
    }

  prefixes : (bound k : ℕ) → k < bound → k ≤ length earlier → (moves p : List M) (m : M) (rest : List M) → slice_get all k ≡ Some moves
      → moves ≡ p ++ m ∷ rest → Gone p
  prefixes zero k less low moves p m rest stands is = absurd (omega (arith, less))
  prefixes (suc bound) k less low moves p m rest stands is =
      let s = split-last m rest in
      let whole : moves ≡ (p ++ s.0) ++ s.1 ∷ [] = is ∙ ap (λ (l : List M). p ++ l) s.2 ∙ sym (append_assoc p s.0 (s.1 ∷ [])) in
      elim (origins space order steps all picked stop.begins.1.1 k moves stands) [
        | inl first ↦ absurd (no_end (p ++ s.0) s.1 (first.1 ∙ whole))
        | inr from ↦
            by from.parent s.0 (push-parts from.parent (p ++ s.0) from.m s.1 (sym from.moves_are ∙ whole))
            (parent-gone k moves stands low from
            (picked-at space order steps all picked stop.begins.1.1 from.place from.is_picked))
            (λ n others e. prefixes bound from.place (omega (arith, less, from.earlier)) (omega (arith, low, from.earlier)) from.parent p n
            others from.stands e)
      ]
    where
      none-behind : {A : Type 0} (xs : List A) → xs ++ [] ≡ xs
      none-behind [] = refl
      none-behind {A = A} (x ∷ xs) = ap (λ (l : List A). x ∷ l) (none-behind xs)

      by : (parent prefix : List M) → parent ≡ p ++ prefix → Gone parent
          → ((n : M) (others : List M) → parent ≡ p ++ n ∷ others → Gone p) → Gone p
      by parent [] e gone onward = again parent (e ∙ none-behind p) gone
        where
          again : (l : List M) → l ≡ p → Gone l → Gone p
          again l e gone = record {
            found = gone.found;
            place = gone.place;
            picked = gone.picked;
            comes = gone.comes;
            stands = gone.stands ∙ ap Some e;
            unsolved = gone.unsolved;
            room = gone.room;
          }
      by parent (n ∷ others) e gone onward = onward n others e

  -- each list on the way to the stop was gone through
  pub prefix-gone : (p : List M) (m : M) (rest : List M) → last ≡ p ++ m ∷ rest → Gone p
  prefix-gone p m rest is =
      prefixes (suc (length earlier)) (length earlier) (omega arith) (omega arith) last p m rest (at_end earlier last) is
