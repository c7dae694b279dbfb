-- What is picked from the agenda of a search is next.
use Rattle.std.specs.Prelude.{◌≡◌, ◌==◌, ◌+◌, ◌<◌, ◌≤◌, ◌⊎◌, cond, true, false, Bool, ℕ, Some, List, [], ◌∷◌, ◌++◌, length, slice_get, slice_index_or, All, Contains, IsPermutation}
use Rattle.std.specs.List.{count_by}
use Rattle.std.proofs.Common.{zero, suc, refl, sym, ap, ◌∙◌, subst, inl, inr, arith, eq-eqb}
use Rattle.std.proofs.lemmas.List.Sums.{sum_by-cons}
use Rattle.std.proofs.lemmas.List.Sorted.{Contains-permutation, IsPermutation-sym, sum_by-IsPermutation}
use borrow.Author.Tests.{eqb-true}
use Rattle.px_base.specs.Answers.{some_same}
use Rattle.px_base.specs.ListLaws.{All-at, Contains-cases, Contains-first, Contains-later, Contains-none, Contains-one}
use Rattle.px_order.specs.Agendas.{Rank, rank_of, rank_value, rank_place}
use Rattle.px_order.specs.Breadth.{IsByLength, InOrder, down_from, down_from-below, down_from-has, in_order}
use Rattle.px_order.specs.Frontier.{IsMoveOrder}
use Rattle.px_order.specs.OpenPlaces.{IsAgendaOf}
use Rattle.px_order.specs.Places.{at_index, order_of, place-within-list, push-cases, still_there, at_end}
use Rattle.px_order.specs.Runs.{Comes, IsNext}
use Rattle.px_order.specs.Spaces.{Space, Order, IsLower, blind, value}

-- a number is in a list or isn't
in-or-not : (k : ℕ) (ns : List ℕ) → Contains ns k ⊎ (¬ Contains ns k)
in-or-not k [] = inr (Contains-none k)
in-or-not k (n ∷ ns) = elim (in-or-not k ns) [
  | inl later ↦ inl (Contains-later n ns k later)
  | inr not_later ↦ elim (order_of n k) [
    | inl less ↦ inr (λ has. elim (Contains-cases n ns k has) [ inl e ↦ omega (arith, e, less) | inr later ↦ not_later later ])
    | inr more ↦ elim (order_of k n) [
      | inl less ↦ inr (λ has. elim (Contains-cases n ns k has) [ inl e ↦ omega (arith, e, less) | inr later ↦ not_later later ])
      | inr no_more ↦
          let same : n ≡ k = omega (arith, more, no_more) in
          inl (subst (λ (x : ℕ). Contains (n ∷ ns) x) same (Contains-first n ns))
    ]
  ]
]

-- ---- how often a place stands among ranks

abbrev times : ℕ → List Rank → ℕ
times k ranks = count_by (λ rank. rank_place rank == k) ranks

abbrev one_for : Bool → ℕ
one_for b = cond b 1 0

times-more : (k : ℕ) (rank : Rank) (ranks : List Rank) → times k (rank ∷ ranks) ≡ one_for (rank_place rank == k) + times k ranks
times-more k rank ranks = sum_by-cons (λ (r : Rank). cond (rank_place r == k) 1 0) rank ranks

times-same : (k : ℕ) (xs ys : List Rank) → IsPermutation xs ys → times k ys ≡ times k xs
times-same k xs ys p = sum_by-IsPermutation (λ (r : Rank). cond (rank_place r == k) 1 0) xs ys p

one-there : (k worth : ℕ) → one_for (rank_place (rank_of worth k) == k) ≡ 1
one-there k worth = ap (λ (b : Bool). cond b 1 0) (eq-eqb k k refl)

stands-once : (k worth : ℕ) (ranks : List Rank) → Contains ranks (rank_of worth k) → 1 ≤ times k ranks
stands-once k worth [] has = absurd (Contains-none (rank_of worth k) has)
stands-once k worth (rank ∷ ranks) has = elim (Contains-cases rank ranks (rank_of worth k) has) [
  | inl is ↦
      let one : one_for (rank_place rank == k) ≡ 1 = ap (λ (r : Rank). one_for (rank_place r == k)) is ∙ one-there k worth in
      omega (arith, times-more k rank ranks, one)
  | inr later ↦ omega (arith, times-more k rank ranks, stands-once k worth ranks later)
]

not-there : (k : ℕ) (ranks : List Rank) → ((worth : ℕ) → ¬ Contains ranks (rank_of worth k)) → times k ranks ≡ 0
not-there k [] none = refl
not-there k (rank ∷ ranks) none =
    by (rank_place rank == k) refl (not-there k ranks (λ worth has. none worth (Contains-later rank ranks (rank_of worth k) has)))
  where
    by : (b : Bool) → (rank_place rank == k) ≡ b → times k ranks ≡ 0 → times k (rank ∷ ranks) ≡ 0
    by true e rest =
        let same : rank_place rank ≡ k = eqb-true (rank_place rank) k e in
        let is : Contains (rank ∷ ranks) rank = Contains-first rank ranks in
        absurd (none (rank_value rank)
        (subst (λ (n : ℕ). Contains (rank ∷ ranks) (rank_of (rank_value rank) n)) same is))
    by false e rest =
        let more = times-more k rank ranks in let one = ap one_for e in omega (arith, more, one, rest)

module _ {N M : Type 0} (space : Space N M) (order : Order N M) where
  abbrev worth_of : List M → ℕ
  worth_of moves = value space order moves

  abbrev Agenda : List (List M) → List ℕ → List Rank → Type 0
  Agenda found picked ranks = IsAgendaOf space order found picked ranks

  pub agenda-first : (ranks : List Rank) → IsPermutation (rank_of (worth_of []) 0 ∷ []) ranks → Agenda ([] ∷ []) [] ranks
  agenda-first ranks p = record {
    has = λ k moves stands fresh.
        let only = first-at k moves stands in
        Contains-permutation (rank_of (worth_of []) 0 ∷ []) ranks (rank_of (worth_of moves) k) p
        (subst (λ (l : List M). Contains (rank_of (worth_of []) 0 ∷ []) (rank_of (worth_of l) k)) only.1
        (subst (λ (n : ℕ). Contains (rank_of (worth_of []) 0 ∷ []) (rank_of (worth_of []) n)) (sym only.0)
        (Contains-first (rank_of (worth_of []) 0) [])));
    only = λ worth k has.
        let is = Contains-one (rank_of (worth_of []) 0) (rank_of worth k)
        (Contains-permutation ranks (rank_of (worth_of []) 0 ∷ []) (rank_of worth k)
        (IsPermutation-sym (rank_of (worth_of []) 0 ∷ []) ranks p) has) in
        ([], ap (λ (n : ℕ). slice_get ([] ∷ []) n) (sym (ap rank_place is)), sym (ap rank_value is), Contains-none k);
    once = λ k. at-most k (rank_place (rank_of (worth_of []) 0) == k) refl;
  }
    where
      first-at : (k : ℕ) (moves : List M) → slice_get ([] ∷ []) k ≡ Some moves → (k ≡ 0) × ([] ≡ moves)
      first-at zero moves stands = (refl, some_same stands)
      first-at (suc k) moves stands = absurd (cc)

      at-most : (k : ℕ) (b : Bool) → (rank_place (rank_of (worth_of []) 0) == k) ≡ b → times k ranks ≤ 1
      at-most k true e =
          let same = times-same k (rank_of (worth_of []) 0 ∷ []) ranks p in
          let more = times-more k (rank_of (worth_of []) 0) [] in
          let one = ap one_for e in
          omega (arith, same, more, one)
      at-most k false e =
          let same = times-same k (rank_of (worth_of []) 0 ∷ []) ranks p in
          let more = times-more k (rank_of (worth_of []) 0) [] in
          let one = ap one_for e in
          omega (arith, same, more, one)

  -- ---- a place is picked

  module _ (found : List (List M)) (picked : List ℕ) (old new : List Rank) (worth place : ℕ) (agenda : Agenda found picked old)
      (taken : IsPermutation old (rank_of worth place ∷ new)) where
    was : (rank : Rank) → Contains (rank_of worth place ∷ new) rank → Contains old rank
    was rank has = Contains-permutation (rank_of worth place ∷ new) old rank (IsPermutation-sym old (rank_of worth place ∷ new) taken) has

    taken-is : (moves : List M) × (slice_get found place ≡ Some moves) × (worth ≡ worth_of moves) × (¬ Contains picked place)
    taken-is = agenda.only worth place (was (rank_of worth place) (Contains-first (rank_of worth place) new))

    -- an open place is the one that is taken, or stands among the others
    left : (k : ℕ) (moves : List M) → slice_get found k ≡ Some moves → (¬ Contains picked k)
        → ((worth ≡ worth_of moves) × (place ≡ k)) ⊎ Contains new (rank_of (worth_of moves) k)
    left k moves stands fresh =
        elim (Contains-cases (rank_of worth place) new (rank_of (worth_of moves) k)
        (Contains-permutation old (rank_of worth place ∷ new) (rank_of (worth_of moves) k) taken (agenda.has k moves stands fresh))) [
          | inl is ↦ inl (ap rank_value is, ap rank_place is)
          | inr later ↦ inr later
        ]

    pub agenda-next : All (λ other. worth ≤ rank_value other) new → All (λ other. worth ≡ rank_value other → place ≤ rank_place other) new
        → IsNext space order found picked place
    agenda-next least tie = record {
      moves = taken-is.0;
      stands = taken-is.1;
      fresh = taken-is.3;
      least = λ k other stands fresh. elim (left k other stands fresh) [
        | inl same ↦ inr (sym taken-is.2 ∙ same.0, omega (arith, same.1))
        | inr later ↦
            let no_more = All-at (λ r. worth ≤ rank_value r) new (rank_of (worth_of other) k) least later in
            let ties = All-at (λ r. worth ≡ rank_value r → place ≤ rank_place r) new (rank_of (worth_of other) k) tie later in
            by k other no_more ties (order_of worth (worth_of other))
      ];
    }
      where
        by : (k : ℕ) (other : List M) → worth ≤ worth_of other → (worth ≡ worth_of other → place ≤ k)
            → (worth < worth_of other) ⊎ (worth_of other ≤ worth)
            → (worth_of taken-is.0 < worth_of other) ⊎ ((worth_of taken-is.0 ≡ worth_of other) × (place ≤ k))
        by k other no_more ties (inl less) = inl (subst (λ (v : ℕ). v < worth_of other) taken-is.2 less)
        by k other no_more ties (inr not_less) =
            let same : worth ≡ worth_of other = omega (arith, no_more, not_less) in inr (sym taken-is.2 ∙ same, ties same)

    pub agenda-left : Agenda found (place ∷ picked) new
    agenda-left = record {
      has = λ k moves stands fresh. elim (left k moves stands (λ was_picked. fresh (Contains-later place picked k was_picked))) [
        | inl same ↦ absurd (fresh (subst (λ (n : ℕ). Contains (place ∷ picked) n) same.1 (Contains-first place picked)))
        | inr later ↦ later
      ];
      only = λ value_k k has.
          let is = agenda.only value_k k (was (rank_of value_k k) (Contains-later (rank_of worth place) new (rank_of value_k k) has)) in (
            is.0,
            is.1,
            is.2,
            λ was_picked. elim (Contains-cases place picked k was_picked) [
              | inl here ↦ twice k value_k has here
              | inr earlier ↦ is.3 earlier
            ],
          );
      once = λ k.
          let same = times-same k old (rank_of worth place ∷ new) taken in
          let more = times-more k (rank_of worth place) new in
          let one = agenda.once k in
          omega (arith, same, more, one);
    }
      where
        twice : (k value_k : ℕ) → Contains new (rank_of value_k k) → ¬ (place ≡ k)
        twice k value_k has here =
            let same = times-same k old (rank_of worth place ∷ new) taken in
            let more = times-more k (rank_of worth place) new in
            let one = ap (λ (n : ℕ). one_for (n == k)) here ∙ one-there k worth in
            let most = agenda.once k in
            let there = stands-once k value_k new has in
            omega (arith, same, more, one, most, there)

  -- ---- a list is found

  module _ (found : List (List M)) (picked : List ℕ) (old new : List Rank) (moves : List M)
      (within : (k : ℕ) → Contains picked k → k < length found) (agenda : Agenda found picked old)
      (put : IsPermutation (rank_of (worth_of moves) (length found) ∷ old) new) where
    pub agenda-more : Agenda (found ++ moves ∷ []) picked new
    agenda-more = record {
      has = λ k other stands fresh. Contains-permutation (rank_of (worth_of moves) (length found) ∷ old) new (rank_of (worth_of other) k) put
          (elim (push-cases found moves other k stands) [
            | inl before ↦ Contains-later (rank_of (worth_of moves) (length found)) old (rank_of (worth_of other) k)
                (agenda.has k other before fresh)
            | inr last ↦ subst (λ (l : List M). Contains (rank_of (worth_of moves) (length found) ∷ old) (rank_of (worth_of l) k)) last.1
                (subst (λ (n : ℕ). Contains (rank_of (worth_of moves) (length found) ∷ old) (rank_of (worth_of moves) n)) (sym last.0)
                (Contains-first (rank_of (worth_of moves) (length found)) old))
          ]);
      only = λ value_k k has. elim (Contains-cases (rank_of (worth_of moves) (length found)) old (rank_of value_k k)
          (Contains-permutation new (rank_of (worth_of moves) (length found) ∷ old) (rank_of value_k k)
          (IsPermutation-sym (rank_of (worth_of moves) (length found) ∷ old) new put) has)) [
            | inl is ↦ (
              moves,
              ap (λ (n : ℕ). slice_get (found ++ moves ∷ []) n) (sym (ap rank_place is)) ∙ at_end found moves,
              sym (ap rank_value is),
              λ was_picked. omega (arith, within k was_picked, ap rank_place is),
            )
            | inr before ↦
                let o = agenda.only value_k k before in (o.0, still_there found (moves ∷ []) k o.0 o.1, o.2, o.3)
          ];
      once = λ k. at-most k (length found == k) refl;
    }
      where
        open-only : (worth : ℕ) → ¬ Contains old (rank_of worth (length found))
        open-only worth has =
            let is = agenda.only worth (length found) has in omega (arith, place-within-list found (length found) is.0 is.1)

        at-most : (k : ℕ) → (b : Bool) → (length found == k) ≡ b → times k new ≤ 1
        at-most k true e =
            let same = times-same k (rank_of (worth_of moves) (length found) ∷ old) new put in
            let more = times-more k (rank_of (worth_of moves) (length found)) old in
            let one = ap one_for e in
            let number : length found ≡ k = eqb-true (length found) k e in
            let none = not-there k old (subst (λ (n : ℕ). (worth : ℕ) → ¬ Contains old (rank_of worth n)) number open-only) in
            omega (arith, same, more, one, none)
        at-most k false e =
            let same = times-same k (rank_of (worth_of moves) (length found) ∷ old) new put in
            let more = times-more k (rank_of (worth_of moves) (length found)) old in
            let one = ap one_for e in
            let before = agenda.once k in
            omega (arith, same, more, one, before)

  pub agenda-none : (found : List (List M)) (picked : List ℕ) → Agenda found picked [] → (k : ℕ) (moves : List M)
      → slice_get found k ≡ Some moves → Contains picked k
  agenda-none found picked agenda k moves stands = elim (in-or-not k picked) [
    | inl has ↦ has
    | inr fresh ↦ absurd (Contains-none (rank_of (worth_of moves) k) (agenda.has k moves stands fresh))
  ]

-- ---- at weight 0 a counter serves

module _ {N M : Type 0} (space : Space N M) (before : List M → List M → Type 0) (sound : IsMoveOrder before) (order : Order N M)
    (by_length : IsByLength before (IsLower order)) (found : List (List M)) (count : ℕ)
    (comes : Comes space (blind order) found (down_from count)) (below : count < length found) where
  abbrev here : List M
  here = slice_index_or found count []

  here-stands : slice_get found count ≡ Some here
  here-stands = at_index found count [] below

  -- found lists have no fewer moves than those before them
  ascends : InOrder space before sound order by_length found (down_from count) → (k : ℕ) (other : List M) → slice_get found k ≡ Some other
      → count ≤ k → length here ≤ length other
  ascends (inl first) k other stands high =
      let at_one : (l : List (List M)) → l ≡ [] ∷ [] → slice_get l count ≡ Some here → length here ≡ 0 =
      λ l e at_l. none_long count here (ap (λ (x : List (List M)). slice_get x count) (sym e) ∙ at_l) in
      let none = at_one found first.0 here-stands in
      omega (arith, none)
    where
      none_long : (k : ℕ) (l : List M) → slice_get ([] ∷ []) k ≡ Some l → length l ≡ 0
      none_long zero l e = ap length (sym (some_same e))
      none_long (suc k) l e = absurd (cc)
  ascends (inr going) k other stands high = elim (order_of count k) [
    | inl more ↦ by_length.shorter here other (going.known.ascending count k here other more here-stands stands)
    | inr low ↦
        let same : count ≡ k = omega (arith, high, low) in
        let e : here ≡ other = some_same (sym here-stands ∙ ap (λ (n : ℕ). slice_get found n) same ∙ stands) in
        omega (arith, ap length e)
  ]

  pub counter-next : IsNext space (blind order) found (down_from count) count
  counter-next = record {
    moves = here;
    stands = here-stands;
    fresh = λ has. omega (arith, down_from-below count count has);
    least = λ k other stands fresh.
        let high : count ≤ k = elim (order_of k count) [ inl low ↦ absurd (fresh (down_from-has count k low)) | inr h ↦ h ] in
        let long = ascends (in_order space before sound order by_length comes.0 found (down_from count) comes.1) k other stands high in
        by k other long high (order_of (length here) (length other));
  }
    where
      by : (k : ℕ) (other : List M) → length here ≤ length other → count ≤ k → (length here < length other) ⊎ (length other ≤ length here)
          → (value space (blind order) here < value space (blind order) other)
          ⊎ ((value space (blind order) here ≡ value space (blind order) other) × (count ≤ k))
      by k other long high (inl less) = inl (omega (arith, less))
      by k other long high (inr not_less) = inr (omega (arith, long, not_less), high)
