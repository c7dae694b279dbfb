-- At weight 0 a search comes to each beginning of the list of all nodes in order: a run of picks and finds that leads there is built, as
-- soon as there can't be none. (What the steps need is found by comparing nodes, of which each list has finitely many.)
use Rattle.std.specs.Prelude.{◌≡◌, ◌<◌, ◌≤◌, ◌⊎◌, ◌+◌, ◌-◌, ℕ, Some, List, [], ◌∷◌, ◌++◌, length, slice_get, slice_index_or, Contains}
use Rattle.std.proofs.Common.{zero, suc, refl, sym, ap, ◌∙◌, subst, inl, inr, arith}
use Rattle.std.proofs.lemmas.List.Elements.{Contains-push_cases}
use Rattle.px_base.specs.ListLaws.{Contains-cases, Contains-first, Contains-later, Contains-none}
use Rattle.px_order.proofs.LawProofs.{blind_is_breadth, blind_needs_no_agenda}
use Rattle.px_order.specs.AtZero.{no_end, push-parts}
use Rattle.px_order.specs.Beginnings.{can-prefix, prefix-least, one_place, places_ascend}
use Rattle.px_order.specs.Breadth.{down_from, down_from-below, down_from-has}
use Rattle.px_order.specs.Frontier.{IsMoveOrder}
use Rattle.px_order.specs.Places.{at_end, at_index, contains_place, joined, length-end, none-behind, order_of, place-within-list, place_of, some-one, still_there}
use Rattle.px_order.specs.RunLaws.{behind, made-push, node-push, over-reaches, root}
use Rattle.px_order.specs.RunOrigins.{found-at, origins}
use Rattle.px_order.specs.Runs.{Begins, Comes, Finds, IsDone, IsGoneOver, IsNew, IsOver, Picks, Reaches, RunsFor}
use Rattle.px_order.specs.Shortlex.{breadth_order}
use Rattle.px_order.specs.Spaces.{CanMake, IsBefore, IsBeginning, IsLeast, IsLinear, Order, Space, at, blind}

-- ---- lists

-- lists that are the same and begin with as many items begin alike
pub same-prefix : {A : Type 0} (ks ls ms ns : List A) → length ks ≡ length ms → ks ++ ls ≡ ms ++ ns → ks ≡ ms
same-prefix [] ls [] ns long e = refl
same-prefix [] ls (m ∷ ms) ns long e = absurd (omega (arith, long))
same-prefix (k ∷ ks) ls [] ns long e = absurd (omega (arith, long))
same-prefix (k ∷ ks) ls (m ∷ ms) ns long e =
    let h : (k ≡ m) × (ks ++ ls ≡ ms ++ ns) = (cc, cc) in cc (h.0, same-prefix ks ls ms ns (omega (arith, long)) h.1)

last-same : {A : Type 0} (p q : List A) (m n : A) → p ++ m ∷ [] ≡ q ++ n ∷ [] → m ≡ n
last-same {A} p q m n e =
    some-one m n
    (sym (at_end p m) ∙ ap (λ (l : List A). slice_get l (length p)) e ∙ ap (λ (l : List A). slice_get (q ++ n ∷ []) (length l))
    (push-parts p q m n e) ∙ at_end q n)

none-there : {A : Type 0} (xs : List A) (x : A) → xs ≡ [] → ¬ (slice_get xs 0 ≡ Some x)
none-there [] x e at = cc
none-there (y ∷ xs) x e at = cc

module _ {N M : Type 0} (space : Space N M) (order : Order N M) (linear : IsLinear order)
    (same_node : (a b : N) → (a ≡ b) ⊎ (¬ (a ≡ b))) where
  abbrev before : List M → List M → Type 0
  before = IsBefore order

  sound : IsMoveOrder before
  sound = breadth_order order linear

  abbrev node_of : List M → N
  node_of moves = at space moves

  abbrev Reached : List (List M) → N → Type 0
  Reached found n = Reaches space (blind order) found n

  abbrev ComesTo : List (List M) → ℕ → Type 0
  ComesTo found count = Comes space (blind order) found (down_from count)

  abbrev Counted : List (List M) → Type 0
  Counted lists = (count : ℕ) × ComesTo lists count

  reached_or_not : (found : List (List M)) (n : N) → Reached found n ⊎ (¬ Reached found n)
  reached_or_not [] n = inr (λ r. Contains-none r.0 r.1)
  reached_or_not (l ∷ found) n = elim (same_node (node_of l) n) [
    | inl e ↦ inl (l, Contains-first l found, e)
    | inr other ↦ elim (reached_or_not found n) [
      | inl r ↦ inl (r.0, Contains-later l found r.0 r.1, r.2)
      | inr never ↦ inr (λ r. elim (Contains-cases l found r.0 r.1) [
        | inl e ↦ other (ap node_of e ∙ r.2)
        | inr later ↦ never (r.0, later, r.2)
      ])
    ]
  ]

  -- the move by which the last found list was found was the first one to a new node
  new-step : (n : ℕ) (xs f : List (List M)) (x : List M) (picked q : List ℕ) (p : List M) (m : M) → x ≡ p ++ m ∷ []
      → RunsFor space (blind order) n f q → (RunsFor space (blind order) n (xs ++ x ∷ []) q → IsNew space (blind order) xs p m)
      → Picks space (blind order) f q (xs ++ x ∷ []) picked ⊎ Finds space (blind order) f q (xs ++ x ∷ []) picked
      → IsNew space (blind order) xs p m
  new-step n xs f x picked q p m is run again (inl s) =
      again (subst (λ (l : List (List M)). RunsFor space (blind order) n l q) (sym s.found_is) run)
  new-step n xs f x picked q p m is run again (inr s) =
      let prefix : xs ≡ f = push-parts xs f x (s.moves ++ s.m ∷ []) s.found_is in
      let whole : p ++ m ∷ [] ≡ s.moves ++ s.m ∷ [] = sym is ∙ last-same xs f x (s.moves ++ s.m ∷ []) s.found_is in
      subst (λ (l : List (List M)). IsNew space (blind order) l p m) (sym prefix)
      (subst (λ (k : M). IsNew space (blind order) f p k) (sym (last-same p s.moves m s.m whole))
      (subst (λ (l : List M). IsNew space (blind order) f l s.m) (sym (push-parts p s.moves m s.m whole)) s.is_new))

  found-new : (n : ℕ) (xs : List (List M)) (x : List M) (picked : List ℕ) → RunsFor space (blind order) n (xs ++ x ∷ []) picked
      → (p : List M) (m : M) → x ≡ p ++ m ∷ [] → IsNew space (blind order) xs p m
  found-new zero xs x picked r p m is = absurd (no_end p m (last-same [] xs [] x (sym r.0) ∙ is))
  found-new (suc n) xs x picked r p m is =
      new-step n xs r.0 x picked r.1 p m is r.2 (λ again. found-new n xs x r.1 again p m is) r.3

  -- ---- one list more

  module _ (all : List (List M)) (beginning : IsBeginning space before space.start all) (xs : List (List M)) (x : List M)
      (rest : List (List M)) (all_is : all ≡ (xs ++ x ∷ []) ++ rest) (possible : ¬ ¬ Begins space (blind order) (xs ++ x ∷ []))
      (p : List M) (m : M) (is : x ≡ p ++ m ∷ []) where
    in-all : (k : ℕ) (q : List M) → slice_get (xs ++ x ∷ []) k ≡ Some q → slice_get all k ≡ Some q
    in-all k q at_k = ap (λ (l : List (List M)). slice_get l k) all_is ∙ still_there (xs ++ x ∷ []) rest k q at_k

    in-front : (k : ℕ) (q : List M) → slice_get xs k ≡ Some q → slice_get all k ≡ Some q
    in-front k q at_k = in-all k q (still_there xs (x ∷ []) k q at_k)

    x-at : slice_get all (length xs) ≡ Some x
    x-at = in-all (length xs) x (at_end xs x)

    least-x : IsLeast space before space.start x
    least-x = beginning.least x (contains_place all (length xs) x x-at)

    least-whole : IsLeast space before space.start (p ++ m ∷ [])
    least-whole = subst (λ (l : List M). IsLeast space before space.start l) is least-x

    before-x : (k : ℕ) (q : List M) → slice_get xs k ≡ Some q → before q x
    before-x k q at_k =
        places_ascend space before sound all beginning k (length xs) q x (place-within-list xs k q at_k) (in-front k q at_k) x-at

    parent-before : before p x
    parent-before = subst (λ (l : List M). before p l) (sym is) (sound.longer p m)

    -- where the list stands from which it goes on
    parent-at : (j : ℕ) × (slice_get xs j ≡ Some p)
    parent-at =
        let has = beginning.closed p x (contains_place all (length xs) x x-at) (prefix-least space before sound p m least-whole)
        parent-before in
        let place = place_of all p has in
        elim (order_of place.0 (length xs)) [
          | inl low ↦ (
            place.0,
            at_index xs place.0 p low ∙ ap Some (some-one (slice_index_or xs place.0 p) p
                (sym (in-front place.0 (slice_index_or xs place.0 p) (at_index xs place.0 p low)) ∙ place.1)),
          )
          | inr high ↦ absurd (by place.0 place.1 high (order_of (length xs) place.0))
        ]
      where
        by : (k : ℕ) → slice_get all k ≡ Some p → length xs ≤ k → (length xs < k) ⊎ (k ≤ length xs) → ⊥
        by k at_k high (inl more) =
            sound.irreflexive p (sound.transitive p x p parent-before
            (places_ascend space before sound all beginning (length xs) k x p more x-at at_k))
        by k at_k high (inr low) =
            let number : length xs ≡ k = omega (arith, high, low) in
            let e : x ≡ p = some-one x p (sym x-at ∙ ap (λ (i : ℕ). slice_get all i) number ∙ at_k) in
            sound.irreflexive p (subst (λ (l : List M). before p l) e parent-before)

    abbrev j : ℕ
    j = parent-at.0

    can-parent : CanMake space space.start p × space.allows (node_of p) m
    can-parent = can-prefix space before sound space.start p m least-whole.made

    made-at : (k : ℕ) (q : List M) → slice_get xs k ≡ Some q → CanMake space space.start q
    made-at k q at_k = (beginning.least q (contains_place all k q (in-front k q at_k))).made

    -- a list before it leads to no node but those that the earlier ones reach
    lower-reached : (l : List M) → CanMake space space.start l → before l x → Reached (xs ++ x ∷ []) (node_of l) → Reached xs (node_of l)
    lower-reached l can less r = elim (Contains-push_cases xs x r.0 r.1) [
      | inl old ↦ (r.0, old, r.2)
      | inr e ↦ absurd (least-x.least l can (sym r.2 ∙ sym (ap node_of e)) less)
    ]

    is_new : IsNew space (blind order) xs p m
    is_new = record {
      allowed = can-parent.1;
      new = λ r.
          let place = place_of xs r.0 r.1 in
          least-x.least r.0 (made-at place.0 r.0 place.1)
          (r.2 ∙ sym (node-push space (blind order) space.start p m) ∙ sym (ap node_of is)) (before-x place.0 r.0 place.1);
      first = λ n can low. elim (reached_or_not xs (space.after (node_of p) n)) [
        | inl r ↦ r
        | inr never ↦ absurd (possible (λ b. never ((found-new b.1.0 xs x b.0 b.1.1 p m is).first n can low)))
      ];
    }

    -- where a run comes to the list, all that goes on from a place before its parent's is found
    module _ (k : ℕ) (q : List M) (low : k < j) (at_k : slice_get xs k ≡ Some q) (n : M) (can : space.allows (node_of q) n) where
      goes-less : before (q ++ n ∷ []) x
      goes-less = subst (λ (l : List M). before (q ++ n ∷ []) l) (sym is)
          (sound.goes_on q p n m (places_ascend space before sound all beginning k j q p low (in-front k q at_k)
          (in-front j p parent-at.1)))

      by-count : (steps : ℕ) (picked : List ℕ) → RunsFor space (blind order) steps (xs ++ x ∷ []) picked → (count : ℕ)
          → picked ≡ down_from count → Contains picked j → Reached (xs ++ x ∷ []) (space.after (node_of q) n)
      by-count steps picked run zero e has = absurd (Contains-none j (subst (λ (l : List ℕ). Contains l j) e has))
      by-count steps picked run (suc c) e has =
          let below = down_from-below (suc c) j (subst (λ (l : List ℕ). Contains l j) e has) in
          (behind space (blind order) steps (xs ++ x ∷ []) picked run).gone c (down_from c) k q e
          (down_from-has c k (omega (arith, below, low))) (still_there xs (x ∷ []) k q at_k) n can

      soon : Begins space (blind order) (xs ++ x ∷ []) → Reached (xs ++ x ∷ []) (space.after (node_of q) n)
      soon b = elim (origins space (blind order) b.1.0 (xs ++ x ∷ []) b.0 b.1.1 (length xs) x (at_end xs x)) [
        | inl first ↦ absurd (no_end p m (first.1 ∙ is))
        | inr h ↦
            let parent : h.parent ≡ p = push-parts h.parent p h.m m (sym h.moves_are ∙ is) in
            let number : h.place ≡ j = one_place space before sound all all beginning beginning h.place j p
            (in-all h.place p (h.stands ∙ ap Some parent)) (in-front j p parent-at.1) in
            let counted = (blind_is_breadth space).in_order order linear b.1.0 (xs ++ x ∷ []) b.0 b.1.1 in
            by-count b.1.0 b.0 b.1.1 counted.0 counted.1 (subst (λ (i : ℕ). Contains b.0 i) number h.is_picked)
      ]

      gone-there : Reached xs (space.after (node_of q) n)
      gone-there =
          let there = node-push space (blind order) space.start q n in
          elim (reached_or_not xs (space.after (node_of q) n)) [
            | inl r ↦ r
            | inr never ↦ absurd (possible (λ b. never (subst (λ (y : N). Reached xs y) there
                (lower-reached (q ++ n ∷ []) (made-push space (blind order) space.start q n (made-at k q at_k) can) goes-less
                (subst (λ (y : N). Reached (xs ++ x ∷ []) y) (sym there) (soon b))))))
          ]

    done : (count : ℕ) → count ≤ j → IsDone space (blind order) xs (down_from count)
    done zero low = tt
    done (suc c) low = λ q at_c n can. gone-there c q (omega (arith, low)) at_c n can

    -- no more places were picked than up to the parent's
    few : (count : ℕ) → ComesTo xs count → count ≤ suc j
    few zero comes = omega arith
    few (suc c) comes = elim (order_of j c) [
      | inl more ↦ absurd (is_new.new ((behind space (blind order) comes.0 xs (down_from (suc c)) comes.1).gone c (down_from c) j p refl
          (down_from-has c j more) parent-at.1 m can-parent.1))
      | inr low ↦ omega (arith, low)
    ]

    inside : (count : ℕ) → count ≤ j → count < length xs
    inside count low = omega (arith, low, place-within-list xs j p parent-at.1)

    picks : (left count : ℕ) → count + left ≡ suc j → ComesTo xs count → ComesTo xs (suc j)
    picks zero count e comes = subst (λ (k : ℕ). ComesTo xs k) (number count e) comes
      where
        number : (count : ℕ) → count + 0 ≡ suc j → count ≡ suc j
        number count e = omega (arith, e)
    picks (suc left) count e comes =
        let low : count ≤ j = omega (arith, e) in
        picks left (suc count) (omega (arith, e)) (
          suc comes.0,
          (
            xs,
            down_from count,
            comes.1,
            inl (record {
              place = count;
              done = done count low;
              next = blind_needs_no_agenda space order linear xs count comes (inside count low);
              found_is = refl;
              picked_is = refl;
            }),
          ),
        )

    pub one-more : (count : ℕ) → ComesTo xs count → Counted (xs ++ x ∷ [])
    one-more count comes =
        let few_picked = few count comes in
        let there = picks (suc j - count) count (omega (arith, few_picked)) comes in (
          suc j,
          (
            suc there.0,
            (
              xs,
              down_from (suc j),
              there.1,
              inr (record {
                place = j;
                earlier = down_from j;
                last = refl;
                moves = p;
                stands = parent-at.1;
                m = m;
                is_new = is_new;
                found_is = ap (λ (l : List M). xs ++ l ∷ []) is;
                picked_is = refl;
              }),
            ),
          ),
        )

  -- ---- all lists

  module _ (all : List (List M)) (beginning : IsBeginning space before space.start all) (possible : ¬ ¬ Begins space (blind order) all)
    where
      possible-prefix : (xs : List (List M)) (x : List M) (rest : List (List M)) → all ≡ (xs ++ x ∷ []) ++ rest
          → ¬ ¬ Begins space (blind order) (xs ++ x ∷ [])
      possible-prefix xs x rest is never = possible (λ b.
          let within : length xs < length all = place-within-list all (length xs) x
          (ap (λ (l : List (List M)). slice_get l (length xs)) is ∙ still_there (xs ++ x ∷ []) rest (length xs) x (at_end xs x)) in
          let f = found-at space (blind order) b.1.0 all b.0 b.1.1 (length xs) within in
          never (subst (λ (l : List (List M)). Begins space (blind order) l)
          (same-prefix (f.earlier ++ f.moves ∷ []) f.rest (xs ++ x ∷ []) rest
          (length-end f.earlier f.moves ∙ ap suc f.number ∙ sym (length-end xs x)) (sym f.found_is ∙ is)) f.begins))

      -- a list is empty, or has a last item
      parts-of : (x : List M) → (x ≡ []) ⊎ ((p : List M) × (m : M) × (x ≡ p ++ m ∷ []))
      parts-of [] = inl refl
      parts-of (k ∷ x) = elim (parts-of x) [
        | inl e ↦ inr ([], k, ap (λ (l : List M). k ∷ l) e)
        | inr more ↦ inr (k ∷ more.0, more.1, ap (λ (l : List M). k ∷ l) more.2)
      ]

      goes-on : (xs ys : List (List M)) → all ≡ xs ++ ys → Counted xs → Counted all
      goes-on xs [] is c = subst (λ (l : List (List M)). Counted l) (none-behind xs ∙ sym is) c
      goes-on xs (x ∷ ys) is c = elim (parts-of x) [
        | inl e ↦
            let first = still_there xs (x ∷ ys) 0 [] (root space (blind order) c.1.0 xs (down_from c.0) c.1.1) in
            let here = still_there (xs ++ x ∷ []) ys (length xs) x (at_end xs x) in
            absurd (sound.first [] (subst (λ (l : List M). before [] l) e
            (places_ascend space before sound all beginning 0 (length xs) [] x
            (place-within-list xs 0 [] (root space (blind order) c.1.0 xs (down_from c.0) c.1.1))
            (ap (λ (l : List (List M)). slice_get l 0) is ∙ first)
            (ap (λ (l : List (List M)). slice_get l (length xs)) whole ∙ here))))
        | inr parts ↦ goes-on (xs ++ x ∷ []) ys whole (one-more all beginning xs x ys whole (possible-prefix xs x ys whole) parts.0 parts.1
            parts.2 c.0 c.1)
      ]
        where
          whole : all ≡ (xs ++ x ∷ []) ++ ys
          whole = is ∙ sym (joined xs (x ∷ []) ys)

      by-first : (first : List (List M)) → all ≡ first → Counted all
      by-first [] is = absurd (possible (λ b. none-there all [] is (root space (blind order) b.1.0 all b.0 b.1.1)))
      by-first ([] ∷ ys) is = goes-on ([] ∷ []) ys is (0, (0, (refl, refl)))
      by-first ((m ∷ ms) ∷ ys) is = absurd (possible (λ b. other (ap (λ (l : List (List M)). slice_get l 0) (sym is)
          ∙ root space (blind order) b.1.0 all b.0 b.1.1)))
        where
          other : ¬ (slice_get ((m ∷ ms) ∷ ys) 0 ≡ Some [])
          other e = cc

      pub counted : Counted all
      counted = by-first all refl

      pub begins : Begins space (blind order) all
      begins = (down_from counted.0, counted.1)

      -- ---- until no place is left

      module _ (over : ¬ ¬ ((picked : List ℕ) × IsOver space (blind order) all picked)) where
        all-gone : (k : ℕ) (q : List M) → slice_get all k ≡ Some q → IsGoneOver space (blind order) all q
        all-gone k q at_k n can =
            let made = (beginning.least q (contains_place all k q at_k)).made in
            elim (reached_or_not all (space.after (node_of q) n)) [
              | inl r ↦ r
              | inr never ↦ absurd (over (λ o. never (subst (λ (y : N). Reached all y) (node-push space (blind order) space.start q n)
                  (over-reaches space (blind order) all o.0 o.1 (q ++ n ∷ []) (made-push space (blind order) space.start q n made can)))))
            ]

        all-done : (count : ℕ) → IsDone space (blind order) all (down_from count)
        all-done zero = tt
        all-done (suc c) = λ q at_c. all-gone c q at_c

        picks-rest : (left count : ℕ) → count + left ≡ length all → ComesTo all count → ComesTo all (length all)
        picks-rest zero count e comes = subst (λ (k : ℕ). ComesTo all k) (number count e) comes
          where
            number : (count : ℕ) → count + 0 ≡ length all → count ≡ length all
            number count e = omega (arith, e)
        picks-rest (suc left) count e comes =
            picks-rest left (suc count) (omega (arith, e)) (
              suc comes.0,
              (
                all,
                down_from count,
                comes.1,
                inl (record {
                  place = count;
                  done = all-done count;
                  next = blind_needs_no_agenda space order linear all count comes (omega (arith, e));
                  found_is = refl;
                  picked_is = refl;
                }),
              ),
            )

        few-picked : (count : ℕ) → ComesTo all count → count ≤ length all
        few-picked zero comes = omega arith
        few-picked (suc c) comes =
            let low = (behind space (blind order) comes.0 all (down_from (suc c)) comes.1).within c (Contains-first c (down_from c)) in
            omega (arith, low)

        pub is-over : IsOver space (blind order) all (down_from (length all))
        is-over =
            let low = few-picked counted.0 counted.1 in
            record {
              comes = picks-rest (length all - counted.0) counted.0 (omega (arith, low)) counted.1;
              done = all-done (length all);
              all = λ k moves at_k. down_from-has (length all) k (place-within-list all k moves at_k);
            }
