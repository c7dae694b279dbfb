-- What a search asks, told by the run that comes to its end: of the places that were picked, and of the lists that were found.
use Rattle.std.proofs.Common.{◌≡◌, ℕ, zero, suc, ◌<◌, ◌≤◌, ◌⊎◌, List, [], ◌∷◌, ◌++◌, length, refl, sym, ◌∙◌, ap, subst, inl, inr, arith, Some, slice_get, Contains, length-append}
use Rattle.std.proofs.lemmas.List.Elements.{Contains-append_left, Contains-push}
use Rattle.px_base.specs.ListLaws.{Contains-later}
use Rattle.px_order.specs.Ends.{Aim, IsStop, IsGoneThrough, IsTested}
use Rattle.px_order.specs.Places.{order_of, contains_place, still_there, at_end, length-end, none-behind}
use Rattle.px_order.specs.RunLaws.{runs-one, prefixes}
use Rattle.px_order.specs.Runs.{IsDone, IsOver, Picks, Finds, RunsFor}
use Rattle.px_order.specs.Spaces.{Space, Order, IsLower, at}

-- a list that ends in another list with items has all but the last of these behind
prefix-of : {A : Type 0} (xs ys : List A) (x z : A) (zs : List A) → xs ++ x ∷ [] ≡ ys ++ z ∷ zs → (rest : List A) × (xs ≡ ys ++ rest)
prefix-of {A = A} xs [] x z zs e = (xs, refl)
prefix-of {A = A} [] (y ∷ []) x z zs e = absurd (cc)
prefix-of {A = A} [] (y ∷ w ∷ ys) x z zs e = absurd (cc)
prefix-of {A = A} (v ∷ xs) (y ∷ ys) x z zs e =
    let h : (v ≡ y) × (xs ++ x ∷ [] ≡ ys ++ z ∷ zs) = (cc, cc) in
    let r = prefix-of xs ys x z zs h.1 in (r.0, cc (h.0, r.1))

module _ {N M : Type 0} (space : Space N M) (order : Order N M) (total : (m n : M) → IsLower order m n ⊎ ((m ≡ n) ⊎ IsLower order n m)) where
  abbrev Runs : ℕ → List (List M) → List ℕ → Type 0
  Runs n found picked = RunsFor space order n found picked

  -- what was picked stays picked
  picks-kept : (m n : ℕ) (f g : List (List M)) (p q : List ℕ) → Runs n f p → Runs m g q → n ≤ m → (k : ℕ) → Contains p k → Contains q k
  picks-kept zero n f g p q r s h k has =
      let number : n ≡ 0 = omega (arith, h) in
      let same = runs-one space order total 0 f g p q (subst (λ (j : ℕ). Runs j f p) number r) s in
      subst (λ (l : List ℕ). Contains l k) same.1 has
  picks-kept (suc m) n f g p q r s h k has = by (order_of m n) (λ low. picks-kept m n f s.0 p s.1 r s.2 low k has)
    where
      by : (m < n) ⊎ (n ≤ m) → (n ≤ m → Contains s.1 k) → Contains q k
      by (inl high) onward =
          let number : n ≡ suc m = omega (arith, h, high) in
          let same = runs-one space order total (suc m) f g p q (subst (λ (j : ℕ). Runs j f p) number r) s in
          subst (λ (l : List ℕ). Contains l k) same.1 has
      by (inr low) onward = elim s.3 [
        | inl x ↦ subst (λ (l : List ℕ). Contains l k) (sym x.picked_is) (Contains-later x.place s.1 k (onward low))
        | inr x ↦ subst (λ (l : List ℕ). Contains l k) (sym x.picked_is) (onward low)
      ]

  -- no step leads on from a state in which no place is left
  no-step : (f g : List (List M)) (p q : List ℕ) → IsOver space order f p → ¬ (Picks space order f p g q ⊎ Finds space order f p g q)
  no-step f g p q over (inl x) = x.next.fresh (over.all x.place x.next.moves x.next.stands)
  no-step f g p q over (inr x) =
      x.is_new.new ((subst (λ (l : List ℕ). IsDone space order f l) x.last over.done) x.moves x.stands x.m x.is_new.allowed)

  -- so no run is longer
  over-last : (m : ℕ) (f g : List (List M)) (p q : List ℕ) → (over : IsOver space order f p) → Runs m g q → m ≤ over.comes.0
  over-last zero f g p q over s = omega arith
  over-last (suc m) f g p q over s = by (order_of m over.comes.0) (over-last m f s.0 p s.1 over s.2)
    where
      by : (m < over.comes.0) ⊎ (over.comes.0 ≤ m) → m ≤ over.comes.0 → suc m ≤ over.comes.0
      by (inl less) low = omega (arith, less)
      by (inr more) low =
          let number : over.comes.0 ≡ m = omega (arith, more, low) in
          let same = runs-one space order total m f s.0 p s.1 (subst (λ (j : ℕ). Runs j f p) number over.comes.1) s.2 in
          let before : IsOver space order s.0 s.1 = subst (λ (l : List ℕ). IsOver space order s.0 l) same.1
          (subst (λ (l : List (List M)). IsOver space order l p) same.0 over) in
          absurd (no-step s.0 g s.1 q before s.3)

  module _ {Q : Type 0} (aim : Aim N Q) where
    -- ---- where there is a stop

    module _ (earlier : List (List M)) (last : List M) (stop : IsStop space order aim earlier last) where
      abbrev all : List (List M)
      all = earlier ++ last ∷ []

      -- no other state has all these lists while none is solved and there is room for them
      too-far : (lists rest : List (List M)) → lists ≡ all ++ rest → ((moves : List M) → Contains lists moves → ¬ aim.solved (at space moves))
          → ¬ (length lists ≤ aim.limit)
      too-far lists rest is unsolved room = elim stop.stops [
        | inl solved ↦ unsolved last (subst (λ (l : List (List M)). Contains l last) (sym is)
            (Contains-append_left all rest last (Contains-push earlier last))) solved
        | inr full ↦ omega (arith, full, room, ap length is, length-append all rest, length-end earlier last)
      ]

      -- what was gone through stands at a place that was picked
      pub gone-picked : (moves : List M) → IsGoneThrough space order aim moves
          → (place : ℕ) × (slice_get all place ≡ Some moves) × Contains stop.begins.0 place
      gone-picked moves g = elim (order_of stop.begins.1.0 g.comes.0) [
        | inl late ↦
            let r = prefixes space order total stop.begins.1.0 g.comes.0 all g.found stop.begins.0 (g.place ∷ g.picked) (omega (arith, late))
            stop.begins.1.1 g.comes.1 in
            absurd (too-far g.found r.0 r.1 g.unsolved g.room)
        | inr early ↦
            let r = prefixes space order total g.comes.0 stop.begins.1.0 g.found all (g.place ∷ g.picked) stop.begins.0 early g.comes.1
            stop.begins.1.1 in (
              g.place,
              ap (λ (l : List (List M)). slice_get l g.place) r.1 ∙ still_there g.found r.0 g.place moves g.stands,
              picks-kept stop.begins.1.0 g.comes.0 g.found all (g.place ∷ g.picked) stop.begins.0 g.comes.1 stop.begins.1.1 early g.place
                  (0, omega arith, refl),
            )
      ]

      -- what was tested is found there, with room for it
      pub tested-found : (moves : List M) → IsTested space order aim moves
          → (place : ℕ) × (slice_get all place ≡ Some moves) × (place < aim.limit)
      tested-found moves t = elim (order_of stop.begins.1.0 t.begins.1.0) [
        | inl late ↦
            let r = prefixes space order total stop.begins.1.0 t.begins.1.0 all (t.earlier ++ moves ∷ []) stop.begins.0 t.begins.0
            (omega (arith, late)) stop.begins.1.1 t.begins.1.1 in
            by r.0 r.1
        | inr early ↦
            let r = prefixes space order total t.begins.1.0 stop.begins.1.0 (t.earlier ++ moves ∷ []) all t.begins.0 stop.begins.0 early
            t.begins.1.1 stop.begins.1.1 in (
              length t.earlier,
              ap (λ (l : List (List M)). slice_get l (length t.earlier)) r.1
                  ∙ still_there (t.earlier ++ moves ∷ []) r.0 (length t.earlier) moves (at_end t.earlier moves),
              t.room,
            )
      ]
        where
          by : (rest : List (List M)) → t.earlier ++ moves ∷ [] ≡ all ++ rest
              → (place : ℕ) × (slice_get all place ≡ Some moves) × (place < aim.limit)
          by [] is = (
            length t.earlier,
            ap (λ (l : List (List M)). slice_get l (length t.earlier)) (none-behind all ∙ sym is) ∙ at_end t.earlier moves,
            t.room,
          )
          by (l ∷ ls) is =
              let parts = prefix-of t.earlier all moves l ls is in
              absurd (too-far t.earlier parts.0 parts.1 t.unsolved (omega (arith, t.room)))

    -- ---- where no place is left

    module _ (lists : List (List M)) (picked : List ℕ) (over : IsOver space order lists picked) where
      pub over-gone : (moves : List M) → IsGoneThrough space order aim moves → Contains lists moves
      over-gone moves g =
          let r = prefixes space order total g.comes.0 over.comes.0 g.found lists (g.place ∷ g.picked) picked
          (over-last g.comes.0 lists g.found picked (g.place ∷ g.picked) over g.comes.1) g.comes.1 over.comes.1 in
          contains_place lists g.place moves
          (ap (λ (l : List (List M)). slice_get l g.place) r.1 ∙ still_there g.found r.0 g.place moves g.stands)

      pub over-tested : (moves : List M) → IsTested space order aim moves → Contains lists moves
      over-tested moves t =
          let r = prefixes space order total t.begins.1.0 over.comes.0 (t.earlier ++ moves ∷ []) lists t.begins.0 picked
          (over-last t.begins.1.0 lists (t.earlier ++ moves ∷ []) picked t.begins.0 over t.begins.1.1) t.begins.1.1 over.comes.1 in
          subst (λ (l : List (List M)). Contains l moves) (sym r.1)
          (Contains-append_left (t.earlier ++ moves ∷ []) r.0 moves (Contains-push t.earlier moves))
