-- The order of breadth: lists of moves, the shorter first and those of one length from the left, are in an order that a search can follow.
use Rattle.std.proofs.Common.{◌≡◌, suc, ◌<◌, ◌⊎◌, List, [], ◌∷◌, ◌++◌, length, refl, sym, ◌∙◌, ap, inl, inr, arith}
use Rattle.std.specs.Ordering.{nat_cmp, on, then_cmp, ordering_then, ordering_reverse}
use Rattle.std.specs.declared.cmp.Ordering.{Ordering}
use Rattle.std.specs.declared.cmp.Ordering.TheVariants.{Less, Equal, Greater}
use Rattle.std.specs.Cmp.{IsTotalOrder, then_total, on_total, nat_cmp_total, ranked, nat_cmp_is}
use Rattle.std.specs.Cmp.Lexicographic.{slice_cmp}
use Rattle.std.proofs.lemmas.Cmp.{lists_total}
use Rattle.px_order.specs.Spaces.{Order, IsLower, IsLinear, IsBefore}
use Rattle.px_order.specs.Frontier.{IsMoveOrder}
use Rattle.px_order.specs.Breadth.{IsByLength}

module _ {M : Type 0} (compare : M → M → Ordering) (total : IsTotalOrder compare)
    (identical : (m n : M) → compare m n ≡ Equal → m ≡ n) where
  abbrev whole : List M → List M → Ordering
  whole = then_cmp (on length nat_cmp) (slice_cmp compare)

  whole_total : IsTotalOrder whole
  whole_total = then_total (on_total length nat_cmp_total) (lists_total total)

  then-Equal : (a b : Ordering) → ordering_then a b ≡ Equal → (a ≡ Equal) × (b ≡ Equal)
  then-Equal Less b e = absurd (cc)
  then-Equal Equal b e = (refl, e)
  then-Equal Greater b e = absurd (cc)

  pub lists_identical : (ms ns : List M) → slice_cmp compare ms ns ≡ Equal → ms ≡ ns
  lists_identical [] [] e = refl
  lists_identical [] (n ∷ ns) e = absurd (cc)
  lists_identical (m ∷ ms) [] e = absurd (cc)
  lists_identical (m ∷ ms) (n ∷ ns) e =
      let h = then-Equal (compare m n) (slice_cmp compare ms ns) e in
      cc (identical m n h.0, lists_identical ms ns h.1)

  -- less in length, or as long and less from the left
  less_cases : (ms ns : List M) → whole ms ns ≡ Less
      → (length ms < length ns) ⊎ ((length ms ≡ length ns) × (slice_cmp compare ms ns ≡ Less))
  less_cases ms ns = by (nat_cmp (length ms) (length ns)) refl
    where
      by : (r : Ordering) → r ≡ nat_cmp (length ms) (length ns) → ordering_then r (slice_cmp compare ms ns) ≡ Less
          → (length ms < length ns) ⊎ ((length ms ≡ length ns) × (slice_cmp compare ms ns ≡ Less))
      by Less h e = inl (ranked (length ms) (length ns) Less h)
      by Equal h e = inr (ranked (length ms) (length ns) Equal h, e)
      by Greater h e = absurd (cc)

  from_shorter : (ms ns : List M) → length ms < length ns → whole ms ns ≡ Less
  from_shorter ms ns h = ap (λ r. ordering_then r (slice_cmp compare ms ns)) (sym (nat_cmp_is (length ms) (length ns) Less h))

  from_left : (ms ns : List M) → length ms ≡ length ns → slice_cmp compare ms ns ≡ Less → whole ms ns ≡ Less
  from_left ms ns h e = ap (λ r. ordering_then r (slice_cmp compare ms ns)) (sym (nat_cmp_is (length ms) (length ns) Equal h)) ∙ e

  length-push : (ms : List M) (m : M) → length (ms ++ m ∷ []) ≡ suc (length ms)
  length-push [] m = refl
  length-push (k ∷ ms) m = ap suc (length-push ms m)

  slice_cmp-push : (ms ns : List M) (m n : M) → length ms ≡ length ns → slice_cmp compare ms ns ≡ Less
      → slice_cmp compare (ms ++ m ∷ []) (ns ++ n ∷ []) ≡ Less
  slice_cmp-push [] [] m n h e = absurd (cc)
  slice_cmp-push [] (y ∷ ns) m n h e = absurd (omega arith)
  slice_cmp-push (x ∷ ms) [] m n h e = absurd (omega arith)
  slice_cmp-push (x ∷ ms) (y ∷ ns) m n h e = by (compare x y) (λ less. slice_cmp-push ms ns m n (omega arith) less) e
    where
      by : (r : Ordering) → (slice_cmp compare ms ns ≡ Less → slice_cmp compare (ms ++ m ∷ []) (ns ++ n ∷ []) ≡ Less)
          → ordering_then r (slice_cmp compare ms ns) ≡ Less → ordering_then r (slice_cmp compare (ms ++ m ∷ []) (ns ++ n ∷ [])) ≡ Less
      by Less more e = refl
      by Equal more e = more e
      by Greater more e = absurd (cc)

  pub move_order : IsMoveOrder (λ ms ns. whole ms ns ≡ Less)
  move_order = record {
    irreflexive = λ ms e. not_less ms e;
    transitive = λ ks ms ns g h. whole_total.trans ks ms ns g h;
    total = λ ms ns. by ms ns (whole ms ns) refl;
    first = λ ms e. elim (less_cases ms [] e) [
      | inl h ↦ omega arith
      | inr h ↦ none_first ms h.1
    ];
    longer = λ ms m. from_shorter ms (ms ++ m ∷ []) (omega (arith, length-push ms m));
    goes_on = λ ms ns m n e. elim (less_cases ms ns e) [
      | inl h ↦ from_shorter (ms ++ m ∷ []) (ns ++ n ∷ []) (omega (arith, length-push ms m, length-push ns n))
      | inr h ↦ from_left (ms ++ m ∷ []) (ns ++ n ∷ []) (length-push ms m ∙ ap suc h.0 ∙ sym (length-push ns n))
          (slice_cmp-push ms ns m n h.0 h.1)
    ];
  }
    where
      not_less : (ms : List M) → ¬ (whole ms ms ≡ Less)
      not_less ms e = let back = whole_total.antisymm ms ms in
          let turned : Less ≡ Greater = sym e ∙ back ∙ ap ordering_reverse e in cc

      none_first : (ms : List M) → ¬ (slice_cmp compare ms [] ≡ Less)
      none_first [] e = cc
      none_first (m ∷ ms) e = cc

      by : (ms ns : List M) (r : Ordering) → whole ms ns ≡ r → (whole ms ns ≡ Less) ⊎ ((ms ≡ ns) ⊎ (whole ns ms ≡ Less))
      by ms ns Less e = inl e
      by ms ns Equal e = inr (inl (lists_identical ms ns (then-Equal _ _ e).1))
      by ms ns Greater e = inr (inr (whole_total.antisymm ns ms ∙ ap ordering_reverse e))

-- ---- for the order of a search

module _ {N M : Type 0} (order : Order N M) (linear : IsLinear order) where
  pub breadth_order : IsMoveOrder (IsBefore order)
  breadth_order = move_order order.compare linear.total linear.identical

  pub lower-total : (m n : M) → IsLower order m n ⊎ ((m ≡ n) ⊎ IsLower order n m)
  lower-total m n = by (order.compare m n) refl
    where
      by : (r : Ordering) → order.compare m n ≡ r → IsLower order m n ⊎ ((m ≡ n) ⊎ IsLower order n m)
      by Less e = inl e
      by Equal e = inr (inl (linear.identical m n e))
      by Greater e = inr (inr (linear.total.antisymm n m ∙ ap ordering_reverse e))

  pub breadth_length : IsByLength (IsBefore order) (IsLower order)
  breadth_length = record {
    shorter = λ ms ns e. elim (less_cases order.compare linear.total linear.identical ms ns e)
        [ inl h ↦ omega (arith, h) | inr h ↦ omega (arith, h.0) ];
    sideways = λ ms m n e. from_left order.compare linear.total linear.identical (ms ++ m ∷ []) (ms ++ n ∷ [])
        (length-push order.compare linear.total linear.identical ms m ∙ sym (length-push order.compare linear.total linear.identical ms n))
        (parts ms m n e);
    lower-total = lower-total;
    lower-transitive = λ k m n g h. linear.total.trans k m n g h;
  }
    where
      turned : (r : Ordering) → r ≡ ordering_reverse r → r ≡ Equal
      turned Less e = absurd (cc)
      turned Equal e = refl
      turned Greater e = absurd (cc)

      same : (k : M) → order.compare k k ≡ Equal
      same k = turned (order.compare k k) (linear.total.antisymm k k)

      parts : (ms : List M) (m n : M) → IsLower order m n → slice_cmp order.compare (ms ++ m ∷ []) (ms ++ n ∷ []) ≡ Less
      parts [] m n e = ap (λ r. ordering_then r Equal) e
      parts (k ∷ ms) m n e = ap (λ r. ordering_then r (slice_cmp order.compare (ms ++ m ∷ []) (ms ++ n ∷ []))) (same k) ∙ parts ms m n e
