-- What a search in which no place is left says of searches in any other order.
use Rattle.std.proofs.Common.{◌≡◌, ℕ, zero, suc, ◌<◌, ◌≤◌, ◌⊎◌, List, [], length, sym, ◌∙◌, ap, inl, inr, arith, Some, slice_get, slice_index_or, Contains}
use Rattle.px_order.specs.Spaces.{Space, Order, at}
use Rattle.px_order.specs.Runs.{IsOver, Begins}
use Rattle.px_order.specs.Places.{order_of, place_of, contains_place, place-within-list, at_index}
use Rattle.px_order.specs.RunLaws.{over-reaches, once, made}

-- ---- numbers below a bound with no two alike are at most so many

choose : (a x m : ℕ) → (x < m) ⊎ (m ≤ x) → ℕ
choose a x m (inl h) = x
choose a x m (inr h) = a

choose-below : (a x m : ℕ) (d : (x < m) ⊎ (m ≤ x)) → (m ≤ x → a < m) → choose a x m d < m
unfolding choose
choose-below a x m (inl h) low = h
choose-below a x m (inr h) low = low h

choose-apart : (a x y m : ℕ) (P : Type 0) (d : (x < m) ⊎ (m ≤ x)) (e : (y < m) ⊎ (m ≤ y)) → x ≤ m → y ≤ m → (x ≡ y → P) → (x ≡ a → P)
    → (a ≡ y → P) → choose a x m d ≡ choose a y m e → P
unfolding choose
choose-apart a x y m P (inl h) (inl g) low low' same left right is = same is
choose-apart a x y m P (inl h) (inr g) low low' same left right is = left is
choose-apart a x y m P (inr h) (inl g) low low' same left right is = right is
choose-apart a x y m P (inr h) (inr g) low low' same left right is = same (omega (arith, h, g, low, low'))

pub pigeons : (n m : ℕ) (f : ℕ → ℕ) → ((i : ℕ) → i < n → f i < m) → ((i j : ℕ) → i < n → j < n → f i ≡ f j → i ≡ j) → n ≤ m
pigeons zero m f below apart = omega arith
pigeons (suc n) zero f below apart = let h = below 0 (omega arith) in absurd (omega (arith, h))
pigeons (suc n) (suc m) f below apart =
    let fewer =
    pigeons n m (λ i. choose (f n) (f i) m (order_of (f i) m))
    (λ i h. choose-below (f n) (f i) m (order_of (f i) m) (λ high. elim (order_of (f n) m) [
      | inl low ↦ low
      | inr top ↦
          let one = below i (omega (arith, h)) in
          let other = below n (omega arith) in
          let same = apart i n (omega (arith, h)) (omega arith) (omega (arith, high, top, one, other)) in absurd (omega (arith, h, same))
    ]))
    (λ i j h g is.
    let one = below i (omega (arith, h)) in
    let other = below j (omega (arith, g)) in
    choose-apart (f n) (f i) (f j) m (i ≡ j) (order_of (f i) m) (order_of (f j) m) (omega (arith, one)) (omega (arith, other))
    (λ same. apart i j (omega (arith, h)) (omega (arith, g)) same)
    (λ same. let e = apart i n (omega (arith, h)) (omega arith) same in absurd (omega (arith, h, e)))
    (λ same. let e = apart n j (omega arith) (omega (arith, g)) same in absurd (omega (arith, g, e))) is) in
    omega (arith, fewer)

-- ---- two searches over the same nodes and moves

module _ {N M : Type 0} (space : Space N M) (order other : Order N M) where
  -- where no place is left in one, the lists of the other are no more, and reach only nodes that the one reaches
  module _ (found : List (List M)) (picked : List ℕ) (over : IsOver space order found picked)
      (lists : List (List M)) (b : Begins space other lists) where
    pub reaches-same : (moves : List M) → Contains lists moves
        → (q : List M) × Contains found q × (at space q ≡ at space moves)
    reaches-same moves has =
        over-reaches space order found picked over moves
        (made space other b.1.0 lists b.0 b.1.1 moves has)

    abbrev list_at : ℕ → List M
    list_at k = slice_index_or lists k []

    place : (k : ℕ) → (k < length lists) ⊎ (length lists ≤ k) → ℕ
    place k (inl below) =
        let r = reaches-same (list_at k) (contains_place lists k (list_at k) (at_index lists k [] below)) in (place_of found r.0 r.1).0
    place k (inr high) = 0

    place-reaches : (k : ℕ) (d : (k < length lists) ⊎ (length lists ≤ k)) → k < length lists
        → (q : List M) × (slice_get found (place k d) ≡ Some q) × (at space q ≡ at space (list_at k))
    unfolding place
    place-reaches k (inl below) h =
        let r = reaches-same (list_at k) (contains_place lists k (list_at k) (at_index lists k [] below)) in
        (r.0, (place_of found r.0 r.1).1, r.2)
    place-reaches k (inr high) h = absurd (omega (arith, h, high))

    pub no-more : length lists ≤ length found
    no-more =
        pigeons (length lists) (length found) (λ k. place k (order_of k (length lists)))
        (λ k h. let r = place-reaches k (order_of k (length lists)) h in
        place-within-list found (place k (order_of k (length lists))) r.0 r.1)
        (λ i j h g e.
        let r = place-reaches i (order_of i (length lists)) h in
        let s = place-reaches j (order_of j (length lists)) g in
        let list : r.0 ≡ s.0 = some-same r.0 s.0 (sym r.1 ∙ ap (λ (k : ℕ). slice_get found k) e ∙ s.1) in
        once space other b.1.0 lists b.0 b.1.1 i j (list_at i) (list_at j) (at_index lists i [] h)
        (at_index lists j [] g)
        (sym r.2 ∙ ap (λ (l : List M). at space l) list ∙ s.2))
      where
        some-same : (x y : List M) → Some x ≡ Some y → x ≡ y
        some-same x y e = cc
