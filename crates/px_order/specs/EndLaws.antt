-- A search ends in one way, and where it is exhausted by one order it ends in no other way by another.
use Rattle.std.proofs.Common.{◌≡◌, ℕ, suc, ◌<◌, ◌⊎◌, ◌+◌, List, [], ◌∷◌, ◌++◌, length, refl, sym, ◌∙◌, ap, subst, inl, inr, arith, Some, slice_get, Contains}
use Rattle.std.proofs.lemmas.List.Elements.{Contains-append_left, Contains-push}
use Rattle.px_order.specs.Spaces.{Space, Order, IsLower}
use Rattle.px_order.specs.Ends.{Aim, IsStop, IsGoneThrough, IsTested, IsFound, IsExhausted, IsNodeLimit, IsAsked}
use Rattle.px_order.specs.Places.{order_of, place_of, contains_place, place-within-list, at_index, still_there, some-one, at_end, length-end, get-prefix}
use Rattle.px_order.specs.RunLaws.{agree, behind}
use Rattle.px_order.specs.RunOrigins.{picked-at, found-at}
use Rattle.px_order.specs.AnyOrder.{no-more, reaches-same}

length-both : {A : Type 0} (xs ys : List A) → length (xs ++ ys) ≡ length xs + length ys
length-both [] ys = omega arith
length-both (x ∷ xs) ys = let r = length-both xs ys in omega (arith, r)

same-items : {A : Type 0} (xs ys : List A) → length xs ≡ length ys
    → ((i : ℕ) (x y : A) → slice_get xs i ≡ Some x → slice_get ys i ≡ Some y → x ≡ y) → xs ≡ ys
same-items [] [] e same = refl
same-items [] (y ∷ ys) e same = absurd (omega (arith, e))
same-items (x ∷ xs) [] e same = absurd (omega (arith, e))
same-items (x ∷ xs) (y ∷ ys) e same = cc (same 0 x y refl refl, same-items xs ys (omega (arith, e)) (λ i. same (suc i)))

module _ {N M Q : Type 0} (space : Space N M) (aim : Aim N Q) where
  module _ (order : Order N M) (total : (m n : M) → IsLower order m n ⊎ ((m ≡ n) ⊎ IsLower order n m)) where
    abbrev Stop : List (List M) → List M → Type 0
    Stop earlier last = IsStop space order aim earlier last

    stops-agree : (e f : List (List M)) (l k : List M) → Stop e l → Stop f k → (i : ℕ) (p q : List M) → slice_get (e ++ l ∷ []) i ≡ Some p
        → slice_get (f ++ k ∷ []) i ≡ Some q → p ≡ q
    stops-agree e f l k s t = agree space order total (e ++ l ∷ []) (f ++ k ∷ []) s.begins t.begins

    not_shorter : (e f : List (List M)) (l k : List M) → Stop e l → Stop f k → ¬ (length e < length f)
    not_shorter e f l k s t less =
        let there = at_index f (length e) l less in
        let same = stops-agree e f l k s t (length e) l _ (at_end e l) (still_there f (k ∷ []) (length e) _ there) in
        let has : Contains f l = contains_place f (length e) l (there ∙ ap Some (sym same)) in
        elim s.stops [ inl is ↦ t.unsolved l has is | inr full ↦ omega (arith, t.room, full, less) ]

    same-length : (e f : List (List M)) (l k : List M) → Stop e l → Stop f k → length e ≡ length f
    same-length e f l k s t = elim (order_of (length e) (length f)) [
      | inl less ↦ absurd (not_shorter e f l k s t less)
      | inr h ↦ elim (order_of (length f) (length e)) [
        | inl less ↦ absurd (not_shorter f e k l t s less)
        | inr g ↦ omega (arith, h, g)
      ]
    ]

    pub one-stop : (e f : List (List M)) (l k : List M) → Stop e l → Stop f k → l ≡ k
    one-stop e f l k s t =
        stops-agree e f l k s t (length e) l k (at_end e l)
        (subst (λ (n : ℕ). slice_get (f ++ k ∷ []) n ≡ Some k) (sym (same-length e f l k s t)) (at_end f k))

    pub same-earlier : (e f : List (List M)) (l k : List M) → Stop e l → Stop f k → e ≡ f
    same-earlier e f l k s t = same-items e f (same-length e f l k s t)
        (λ i p q at_p at_q. stops-agree e f l k s t i p q (still_there e (l ∷ []) i p at_p) (still_there f (k ∷ []) i q at_q))

  -- ---- where the search is exhausted, each found list was gone through and tested

  module _ (order : Order N M) (x : IsExhausted space order aim) where
    pub list-gone : (moves : List M) → Contains x.lists moves → IsGoneThrough space order aim moves
    list-gone moves has =
        let place = place_of x.lists moves has in
        let s = picked-at space order x.over.comes.0 x.lists x.picked x.over.comes.1 place.0 (x.over.all place.0 moves place.1) in
        record {
          found = s.lists;
          place = place.0;
          picked = s.earlier;
          comes = s.comes;
          stands = get-prefix s.lists s.rest place.0 moves
              ((behind space order s.comes.0 s.lists (place.0 ∷ s.earlier) s.comes.1).within place.0 (0, omega arith, refl))
              (ap (λ (z : List (List M)). slice_get z place.0) (sym s.found_is) ∙ place.1);
          unsolved = λ l inside.
              x.unsolved l (subst (λ (z : List (List M)). Contains z l) (sym s.found_is) (Contains-append_left s.lists s.rest l inside));
          room = omega (arith, ap length s.found_is, length-both s.lists s.rest, x.room);
        }

    pub list-tested : (moves : List M) → Contains x.lists moves → IsTested space order aim moves
    list-tested moves has =
        let place = place_of x.lists moves has in
        let inside = place-within-list x.lists place.0 moves place.1 in
        let s = found-at space order x.over.comes.0 x.lists x.picked x.over.comes.1 place.0 inside in
        let same : s.moves ≡ moves = some-one s.moves moves (sym s.stands ∙ place.1) in
        subst (λ (l : List M). IsTested space order aim l) same (record {
          earlier = s.earlier;
          begins = s.begins;
          unsolved = λ l inside. x.unsolved l (subst (λ (z : List (List M)). Contains z l) (sym s.found_is)
              (Contains-append_left (s.earlier ++ s.moves ∷ []) s.rest l (Contains-append_left s.earlier (s.moves ∷ []) l inside)));
          room = omega (arith, s.number, inside, x.room);
        })

  -- ---- exhausted by one order, and ends by another

  module _ (order other : Order N M) (x : IsExhausted space order aim) where
    -- no stop comes by the other order
    pub no-stop : (earlier : List (List M)) (last : List M)
        → ¬ IsStop space other aim earlier last
    no-stop earlier last s = elim s.stops [
      | inl is ↦
          let r = reaches-same space order other x.lists x.picked x.over (earlier ++ last ∷ []) s.begins
          last (Contains-push earlier last) in
          x.unsolved r.0 r.1 (subst aim.solved (sym r.2) is)
      | inr full ↦
          let few = no-more space order other x.lists x.picked x.over (earlier ++ last ∷ []) s.begins in
          omega (arith, few, full, x.room, length-end earlier last)
    ]

    pub not-found : (moves : List M) → ¬ IsFound space other aim moves
    not-found moves f = no-stop f.earlier moves f.stop

    pub not-full : (earlier : List (List M)) (moves : ℕ) → ¬ IsNodeLimit space other aim earlier moves
    not-full earlier moves f = no-stop earlier f.last f.stop

    -- nor does a question that the other order asks meet its limit
    pub not-limited : (moves : List M) (q : Q) → IsAsked space other aim moves q → ¬ aim.meets q
    not-limited moves q (inl (gone, asked)) met =
        let r = reaches-same space order other x.lists x.picked x.over gone.found
        (gone.place ∷ gone.picked, gone.comes) moves (contains_place gone.found gone.place moves gone.stands) in
        x.unlimited r.0 q (inl (list-gone order x r.0 r.1, subst (λ (n : N). aim.asks n q) (sym r.2) asked)) met
    not-limited moves q (inr (tested, asked)) met =
        let r = reaches-same space order other x.lists x.picked x.over (tested.earlier ++ moves ∷ [])
        tested.begins moves (Contains-push tested.earlier moves) in
        x.unlimited r.0 q (inr (list-tested order x r.0 r.1, subst (λ (n : N). aim.tries n q) (sym r.2) asked)) met
