-- The laws of sets that are kept as ascending lists.
use Rattle.std.specs.Prelude.{◌≡◌, ◌↔◌, ◌≤◌, ◌+◌, List, [], ◌∷◌, ◌++◌, length, Contains}
use Rattle.std.proofs.Common.{refl, sym, ap, ◌∙◌, subst, inl, inr, arith}
use Rattle.std.proofs.lemmas.List.Elements.{Contains-append_left, Contains-append_right, Contains-append_cases}
use Rattle.std.specs.Cmp.{IsTotalOrder, tied_itself}
use Rattle.std.specs.List.{AllByRecursion}
use Rattle.std.specs.List.Sorted.{IsStrictlySortedBy}
use Rattle.std.specs.declared.cmp.Ordering.{Ordering}
use Rattle.std.specs.declared.cmp.Ordering.TheVariants.{Less, Equal, Greater}
use Rattle.std.specs.Ordering.{ordering_reverse}
use Rattle.std.specs.FinSet.{IsAntisymmetric}
use Rattle.px_base.specs.ListLaws.{Contains-none, Contains-first, Contains-later, Contains-cases, Contains-one, AllByRecursion-at, AllByRecursion-map}
use Rattle.px_base.specs.Sets.{place_item, with_item, set_of}

different : {G : Type 0} → ◌≡◌ {A = Ordering} Less Equal → G
different e = cc

module _ {K : Type 0} (R : K → K → Ordering) where
  all_with : (P : K → Type 0) (item : K) (items : List K) → P item → AllByRecursion P items → AllByRecursion P (with_item R item items)
  unfolding with_item
  all_with P item [] here all = (here, tt)
  all_with P item (x ∷ xs) here all =
      elim (R item x) as (λ r. AllByRecursion P (place_item r item x xs (with_item R item xs))) [
        | Less ↦ (here, all)
        | Equal ↦ all
        | Greater ↦ (all.0, all_with P item xs here all.1)
      ]

  -- a set with one more item has at most one more
  pub with_item-length : (item : K) (items : List K) → length (with_item R item items) ≤ length items + 1
  unfolding with_item
  with_item-length item [] = omega arith
  with_item-length item (x ∷ xs) = elim (R item x) as (λ r. length (place_item r item x xs (with_item R item xs)) ≤ length (x ∷ xs) + 1) [
    | Less ↦ omega arith
    | Equal ↦ omega arith
    | Greater ↦ let rest = with_item-length item xs in omega arith
  ]

  -- a set has at most as many items as the list that it is made of
  pub set_of-length : (items : List K) → length (set_of R items) ≤ length items
  unfolding set_of
  set_of-length [] = omega arith
  set_of-length (x ∷ xs) = let rest = set_of-length xs in let one = with_item-length x (set_of R xs) in omega arith

  -- an item that is below all others stands in front of them
  pub with_item-below : (item : K) (items : List K) → AllByRecursion (λ y. R item y ≡ Less) items → with_item R item items ≡ item ∷ items
  unfolding with_item
  with_item-below item [] all = refl
  with_item-below item (x ∷ xs) all = ap (λ r. place_item r item x xs (with_item R item xs)) all.0

  -- a list that ascends is the set of its items
  pub set_of-sorted : (items : List K) → IsStrictlySortedBy R items → set_of R items ≡ items
  unfolding set_of IsStrictlySortedBy
  set_of-sorted [] sorted = refl
  set_of-sorted (x ∷ xs) sorted = ap (with_item R x) (set_of-sorted xs sorted.1) ∙ with_item-below x xs sorted.0

  module _ (o : IsTotalOrder R) (same : IsAntisymmetric R) where
    pub with_item-sorted : (item : K) (items : List K) → IsStrictlySortedBy R items → IsStrictlySortedBy R (with_item R item items)
    unfolding with_item IsStrictlySortedBy
    with_item-sorted item [] sorted = (tt, tt)
    with_item-sorted item (x ∷ xs) sorted =
        elim (R item x) as (λ r. R item x ≡ r → IsStrictlySortedBy R (place_item r item x xs (with_item R item xs))) [
          | Less ↦ λ less. ((less, AllByRecursion-map _ _ (λ y below. o.trans item x y less below) xs sorted.0), sorted)
          | Equal ↦ λ _. sorted
          | Greater ↦ λ more. (
            all_with (λ y. R x y ≡ Less) item xs (o.antisymm x item ∙ ap ordering_reverse more) sorted.0,
            with_item-sorted item xs sorted.1,
          )
        ] refl

    pub set_of-is_sorted : (items : List K) → IsStrictlySortedBy R (set_of R items)
    unfolding set_of IsStrictlySortedBy
    set_of-is_sorted [] = tt
    set_of-is_sorted (x ∷ xs) = with_item-sorted x (set_of R xs) (set_of-is_sorted xs)

    pub with_item-members : (item : K) (items : List K) (q : K) → Contains (with_item R item items) q ↔ Contains (item ∷ items) q
    unfolding with_item
    with_item-members item [] q = (λ h. h, λ h. h)
    with_item-members item (x ∷ xs) q =
        elim (R item x) as (λ r. R item x ≡ r → Contains (place_item r item x xs (with_item R item xs)) q ↔ Contains (item ∷ x ∷ xs) q) [
          | Less ↦ λ _. (λ h. h, λ h. h)
          | Equal ↦ λ equal. (
            λ h. Contains-later item (x ∷ xs) q h,
            λ h. elim (Contains-cases item (x ∷ xs) q h) [
              | inl is ↦ subst (Contains (x ∷ xs)) (sym (same item x equal) ∙ is)
                  (Contains-first x xs)
              | inr later ↦ later
            ],
          )
          | Greater ↦ λ _.
              let members = with_item-members item xs q in (
                λ h. elim (Contains-cases x (with_item R item xs) q h) [
                  | inl is ↦ subst (Contains (item ∷ x ∷ xs)) is (Contains-later item (x ∷ xs) x (Contains-first x xs))
                  | inr later ↦ elim (Contains-cases item xs q (members.0 later)) [
                    | inl is ↦ subst (Contains (item ∷ x ∷ xs)) is (Contains-first item (x ∷ xs))
                    | inr rest ↦ Contains-later item (x ∷ xs) q (Contains-later x xs q rest)
                  ]
                ],
                λ h. elim (Contains-cases item (x ∷ xs) q h) [
                  | inl is ↦ Contains-later x (with_item R item xs) q (members.1 (subst (Contains (item ∷ xs)) is (Contains-first item xs)))
                  | inr later ↦ elim (Contains-cases x xs q later) [
                    | inl is ↦ subst (Contains (x ∷ with_item R item xs)) is (Contains-first x (with_item R item xs))
                    | inr rest ↦ Contains-later x (with_item R item xs) q (members.1 (Contains-later item xs q rest))
                  ]
                ],
              )
        ] refl

    pub set_of-members : (items : List K) (q : K) → Contains (set_of R items) q ↔ Contains items q
    unfolding set_of
    set_of-members [] q = (λ h. h, λ h. h)
    set_of-members (x ∷ xs) q =
        let put = with_item-members x (set_of R xs) q in
        let rest = set_of-members xs q in (
          λ h. elim (Contains-cases x (set_of R xs) q (put.0 h))
              [ inl is ↦ subst (Contains (x ∷ xs)) is (Contains-first x xs) | inr later ↦ Contains-later x xs q (rest.0 later) ],
          λ h. put.1 (elim (Contains-cases x xs q h) [
            | inl is ↦ subst (Contains (x ∷ set_of R xs)) is (Contains-first x (set_of R xs))
            | inr
                later ↦ Contains-later x (set_of R xs) q (rest.1 later)
          ]),
        )

    never_both : {G : Type 0} (x y : K) → R x y ≡ Less → R y x ≡ Less → G
    never_both x y less more = different (sym (o.trans x y x less more) ∙ tied_itself o x)

    never_itself : {G : Type 0} (x q : K) → x ≡ q → R x q ≡ Less → G
    never_itself x q is less = different (sym less ∙ ap (R x) (sym is) ∙ tied_itself o x)

    -- two sets with the same members are the same list
    pub same_set : (xs ys : List K) → IsStrictlySortedBy R xs → IsStrictlySortedBy R ys → ((q : K) → Contains xs q ↔ Contains ys q)
        → xs ≡ ys
    unfolding IsStrictlySortedBy
    same_set [] [] s t m = refl
    same_set [] (y ∷ ys) s t m = absurd (Contains-none y ((m y).1 (Contains-first y ys)))
    same_set (x ∷ xs) [] s t m = absurd (Contains-none x ((m x).0 (Contains-first x xs)))
    same_set (x ∷ xs) (y ∷ ys) s t m =
        let first : x ≡ y = elim (Contains-cases y ys x ((m x).0 (Contains-first x xs))) [
          | inl is ↦ sym is
          | inr in_ys ↦ elim (Contains-cases x xs y ((m y).1 (Contains-first y ys))) [
            | inl is ↦ is
            | inr in_xs ↦ never_both x y (AllByRecursion-at _ xs y s.0 in_xs) (AllByRecursion-at _ ys x t.0 in_ys)
          ]
        ] in
        let tails = same_set xs ys s.1 t.1 (λ q. (
          λ h. elim (Contains-cases y ys q ((m q).0 (Contains-later x xs q h)))
              [ inl is ↦ never_itself x q (first ∙ is) (AllByRecursion-at _ xs q s.0 h) | inr later ↦ later ],
          λ h. elim (Contains-cases x xs q ((m q).1 (Contains-later y ys q h)))
              [ inl is ↦ never_itself y q (sym first ∙ is) (AllByRecursion-at _ ys q t.0 h) | inr later ↦ later ],
        )) in
        λ i. first i ∷ tails i

    -- one more item of the list is one more of its set
    pub set_of-push : (items : List K) (item : K) → with_item R item (set_of R items) ≡ set_of R (items ++ item ∷ [])
    set_of-push items item =
        same_set (with_item R item (set_of R items)) (set_of R (items ++ item ∷ []))
        (with_item-sorted item (set_of R items) (set_of-is_sorted items)) (set_of-is_sorted (items ++ item ∷ []))
        (λ q.
        let put = with_item-members item (set_of R items) q in
        let pushed = set_of-members (items ++ item ∷ []) q in
        let there = set_of-members items q in (
          λ h. pushed.1 (elim (Contains-cases item (set_of R items) q (put.0 h)) [
            | inl is ↦ Contains-append_right items (item ∷ []) q (subst (Contains (item ∷ [])) is (Contains-first item []))
            | inr later ↦ Contains-append_left items (item ∷ []) q (there.0 later)
          ]),
          λ h. put.1 (elim (Contains-append_cases items (item ∷ []) q (pushed.0 h)) [
            | inl left ↦ Contains-later item (set_of R items) q (there.1 left)
            | inr right ↦ subst (Contains (item ∷ set_of R items)) (Contains-one item q right) (Contains-first item (set_of R items))
          ]),
        ))
