-- Searches worked by hand.
use Rattle.std.proofs.Common.{◌≡◌, ℕ, zero, suc, ◌<◌, ◌≤◌, ◌+◌, ◌⊎◌, List, [], ◌∷◌, ◌++◌, refl, sym, ◌∙◌, ap, subst, inl, inr, arith, Some, slice_get, Contains}
use Rattle.std.specs.Cmp.{ranked}
use Rattle.std.specs.declared.cmp.Ordering.TheVariants.{Less}
use Rattle.px_base.specs.ListLaws.{Contains-cases, Contains-none}
use Rattle.px_base.specs.Answers.{some_same}
use Rattle.px_order.specs.Spaces.{at, value}
use Rattle.px_order.specs.Runs.{Reaches, IsGoneOver, IsDone, IsNext, IsNew, RunsFor, IsOver}
use Rattle.px_order.specs.Ends.{IsStop, NoneSolved, IsUnlimited}
use Rattle.px_order.specs.WorkedOrder.{five_nodes, weighted, leads_to, to_reach, first_four, all_five, OrderFacts}

module _ (weight : ℕ) where
  abbrev Reached : List (List ℕ) → ℕ → Type 0
  Reached found n = Reaches five_nodes (weighted weight) found n

  abbrev worth : List ℕ → ℕ
  worth moves = value five_nodes (weighted weight) moves

  -- the nodes are reached
  abbrev AreReached : List (List ℕ) → List ℕ → Type 0
  AreReached found [] = Unit {0}
  AreReached found (n ∷ ns) = Reached found n × AreReached found ns

  one-reached : (found : List (List ℕ)) (ns : List ℕ) → AreReached found ns → (n : ℕ) → Contains ns n → Reached found n
  one-reached found [] all n has = absurd (Contains-none n has)
  one-reached found (k ∷ ns) all n has = elim (Contains-cases k ns n has) [
    | inl e ↦ subst (λ (x : ℕ). Reached found x) e all.0
    | inr later ↦ one-reached found ns all.1 n later
  ]

  gone : (found : List (List ℕ)) (moves : List ℕ) → AreReached found (leads_to (at five_nodes moves))
      → IsGoneOver five_nodes (weighted weight) found moves
  gone found moves all m can = one-reached found (leads_to (at five_nodes moves)) all m can

  done : (found : List (List ℕ)) (place : ℕ) (earlier : List ℕ) (moves : List ℕ) → slice_get found place ≡ Some moves
      → AreReached found (leads_to (at five_nodes moves)) → IsDone five_nodes (weighted weight) found (place ∷ earlier)
  done found place earlier moves stands all others at_others =
      subst (λ (l : List ℕ). IsGoneOver five_nodes (weighted weight) found l) (some_same (sym stands ∙ at_others)) (gone found moves all)

  -- the number isn't in the list
  abbrev IsApart : ℕ → List ℕ → Type 0
  IsApart k [] = Unit {0}
  IsApart k (n ∷ ns) = ((n < k) ⊎ (k < n)) × IsApart k ns

  not-in : (k : ℕ) (ns : List ℕ) → IsApart k ns → ¬ Contains ns k
  not-in k [] apart has = Contains-none k has
  not-in k (n ∷ ns) apart has = elim (Contains-cases n ns k has) [
    | inl e ↦ elim apart.0 [ inl less ↦ omega (arith, less, e) | inr more ↦ omega (arith, more, e) ]
    | inr later ↦ not-in k ns apart.1 later
  ]

  -- no list from this place on goes before the place of this value
  abbrev AreNoBetter : ℕ → ℕ → List ℕ → ℕ → List (List ℕ) → Type 0
  AreNoBetter best place picked k [] = Unit {0}
  AreNoBetter best place picked k (l ∷ ls) =
      (Contains picked k ⊎ ((best < worth l) ⊎ ((best ≡ worth l) × (place ≤ k)))) × AreNoBetter best place picked (suc k) ls

  one-no-better : (best place : ℕ) (picked : List ℕ) (from k j : ℕ) (ls : List (List ℕ)) → AreNoBetter best place picked from ls
      → (l : List ℕ) → slice_get ls k ≡ Some l → j ≡ from + k → (¬ Contains picked j)
      → (best < worth l) ⊎ ((best ≡ worth l) × (place ≤ j))
  one-no-better best place picked from k j [] all l stands number fresh = absurd (cc)
  one-no-better best place picked from zero j (x ∷ ls) all l stands number fresh =
      let same : from ≡ j = omega (arith, number) in
      elim all.0 [
        | inl has ↦ absurd (fresh (subst (λ (n : ℕ). Contains picked n) same has))
        | inr (inl less) ↦ inl (subst (λ (y : List ℕ). best < worth y) (some_same stands) less)
        | inr (inr more) ↦ inr (subst (λ (y : List ℕ). best ≡ worth y) (some_same stands) more.0, omega (arith, more.1, same))
      ]
  one-no-better best place picked from (suc k) j (x ∷ ls) all l stands number fresh =
      one-no-better best place picked (suc from) k j ls all.1 l stands (omega (arith, number)) fresh

  next : (found : List (List ℕ)) (picked : List ℕ) (place : ℕ) (moves : List ℕ) → slice_get found place ≡ Some moves → IsApart place picked
      → AreNoBetter (worth moves) place picked 0 found → IsNext five_nodes (weighted weight) found picked place
  next found picked place moves stands apart all = record {
    moves = moves;
    stands = stands;
    fresh = not-in place picked apart;
    least = λ k other at_k fresh. one-no-better (worth moves) place picked 0 k k found all other at_k (omega arith) fresh;
  }

  -- none of the lists reaches the node
  abbrev AreElsewhere : ℕ → List (List ℕ) → Type 0
  AreElsewhere n [] = Unit {0}
  AreElsewhere n (l ∷ ls) = ((at five_nodes l < n) ⊎ (n < at five_nodes l)) × AreElsewhere n ls

  not-reached : (n : ℕ) (found : List (List ℕ)) → AreElsewhere n found → ¬ Reached found n
  not-reached n [] all r = Contains-none r.0 r.1
  not-reached n (l ∷ ls) all r = elim (Contains-cases l ls r.0 r.1) [
    | inl e ↦
        let here : at five_nodes l ≡ n = ap (λ (x : List ℕ). at five_nodes x) e ∙ r.2 in
        elim all.0 [ inl less ↦ omega (arith, less, here) | inr more ↦ omega (arith, more, here) ]
    | inr later ↦ not-reached n ls all.1 (r.0, later, r.2)
  ]

  -- the lower ones of the moves lead to nodes that are reached
  abbrev AreLowerReached : List (List ℕ) → ℕ → List ℕ → Type 0
  AreLowerReached found m [] = Unit {0}
  AreLowerReached found m (n ∷ ns) = ((m ≤ n) ⊎ Reached found n) × AreLowerReached found m ns

  lower-reached : (found : List (List ℕ)) (m : ℕ) (ns : List ℕ) → AreLowerReached found m ns → (n : ℕ) → Contains ns n → n < m
      → Reached found n
  lower-reached found m [] all n has less = absurd (Contains-none n has)
  lower-reached found m (k ∷ ns) all n has less = elim (Contains-cases k ns n has) [
    | inl e ↦ elim all.0 [ inl more ↦ absurd (omega (arith, more, less, e)) | inr r ↦ subst (λ (x : ℕ). Reached found x) e r ]
    | inr later ↦ lower-reached found m ns all.1 n later less
  ]

  new : (found : List (List ℕ)) (moves : List ℕ) (m : ℕ) → Contains (leads_to (at five_nodes moves)) m → AreElsewhere m found
      → AreLowerReached found m (leads_to (at five_nodes moves)) → IsNew five_nodes (weighted weight) found moves m
  new found moves m allowed elsewhere lower = record {
    allowed = allowed;
    new = not-reached m found elsewhere;
    first = λ n can is_lower. lower-reached found m (leads_to (at five_nodes moves)) lower n can (ranked n m Less (sym is_lower));
  }

  abbrev Runs : ℕ → List (List ℕ) → List ℕ → Type 0
  Runs n found picked = RunsFor five_nodes (weighted weight) n found picked

  picks : (n : ℕ) (found : List (List ℕ)) (picked : List ℕ) (place : ℕ) → Runs n found picked
      → IsDone five_nodes (weighted weight) found picked → IsNext five_nodes (weighted weight) found picked place
      → Runs (suc n) found (place ∷ picked)
  picks n found picked place run done next =
      (found, picked, run, inl (record { place = place; done = done; next = next; found_is = refl; picked_is = refl }))

  finds : (n : ℕ) (found : List (List ℕ)) (place : ℕ) (earlier : List ℕ) (moves : List ℕ) (m : ℕ) → Runs n found (place ∷ earlier)
      → slice_get found place ≡ Some moves → IsNew five_nodes (weighted weight) found moves m
      → Runs (suc n) (found ++ (moves ++ m ∷ []) ∷ []) (place ∷ earlier)
  finds n found place earlier moves m run stands is_new = (
    found,
    place ∷ earlier,
    run,
    inr (record {
      place = place;
      earlier = earlier;
      last = refl;
      moves = moves;
      stands = stands;
      m = m;
      is_new = is_new;
      found_is = refl;
      picked_is = refl;
    }),
  )

  -- ---- the first steps, with any weight

  abbrev root : List (List ℕ)
  root = [] ∷ []

  abbrev first_two : List (List ℕ)
  first_two = [] ∷ (1 ∷ []) ∷ []

  abbrev first_three : List (List ℕ)
  first_three = [] ∷ (1 ∷ []) ∷ (2 ∷ []) ∷ []

  first-picked : Runs 1 root (0 ∷ [])
  first-picked = picks 0 root [] 0 (refl, refl) tt (next root [] 0 [] refl tt (inr (inr (refl, omega arith)), tt))

  one-found : Runs 2 first_two (0 ∷ [])
  one-found = finds 1 root 0 [] [] 1 first-picked refl (new root [] 1 (0, omega arith, refl) (inl (omega arith), tt)
      (inl (omega arith), (inl (omega arith), (inl (omega arith), tt))))

  two-found : Runs 3 first_three (0 ∷ [])
  two-found = finds 2 first_two 0 [] [] 2 one-found refl
      (new first_two [] 2 (1, omega arith, refl) (inl (omega arith), (inl (omega arith), tt))
      (inr (1 ∷ [], (1, omega arith, refl), refl), (inl (omega arith), (inl (omega arith), tt))))

  three-found : Runs 4 first_four (0 ∷ [])
  three-found = finds 3 first_three 0 [] [] 3 two-found refl
      (new first_three [] 3 (2, omega arith, refl) (inl (omega arith), (inl (omega arith), (inl (omega arith), tt)))
      (inr (1 ∷ [], (1, omega arith, refl), refl), (inr (2 ∷ [], (2, omega arith, refl), refl), (inl (omega arith), tt))))

  root-done : IsDone five_nodes (weighted weight) first_four (0 ∷ [])
  root-done = done first_four 0 [] [] refl
      ((1 ∷ [], (1, omega arith, refl), refl), ((2 ∷ [], (2, omega arith, refl), refl), ((3 ∷ [], (3, omega arith, refl), refl), tt)))

  -- node 4 is new from node 3
  four-new : IsNew five_nodes (weighted weight) first_four (3 ∷ []) 4
  four-new = new first_four (3 ∷ []) 4 (0, omega arith, refl)
      (inl (omega arith), (inl (omega arith), (inl (omega arith), (inl (omega arith), tt)))) (inl (omega arith), tt)

  three-done : (earlier : List ℕ) → IsDone five_nodes (weighted weight) all_five (3 ∷ earlier)
  three-done earlier = done all_five 3 earlier (3 ∷ []) refl ((3 ∷ 4 ∷ [], (4, omega arith, refl), refl), tt)

  all-in : (picked : List ℕ) → Contains picked 0 → Contains picked 1 → Contains picked 2 → Contains picked 3 → Contains picked 4
      → (k : ℕ) (moves : List ℕ) → slice_get all_five k ≡ Some moves → Contains picked k
  all-in picked p0 p1 p2 p3 p4 zero moves stands = p0
  all-in picked p0 p1 p2 p3 p4 (suc zero) moves stands = p1
  all-in picked p0 p1 p2 p3 p4 (suc (suc zero)) moves stands = p2
  all-in picked p0 p1 p2 p3 p4 (suc (suc (suc zero))) moves stands = p3
  all-in picked p0 p1 p2 p3 p4 (suc (suc (suc (suc zero)))) moves stands = p4
  all-in picked p0 p1 p2 p3 p4 (suc (suc (suc (suc (suc k))))) moves stands = absurd (cc)

  none-solved : (node limit : ℕ) (lists : List (List ℕ)) → AreElsewhere node lists
      → NoneSolved five_nodes (weighted weight) (to_reach node limit) lists
  none-solved node limit lists all moves has solved = not-reached node lists all (moves, has, solved)

  unlimited : (node limit : ℕ) → IsUnlimited five_nodes (weighted weight) (to_reach node limit)
  unlimited node limit moves q asked met = met

-- ---- with weight 2

two-picked : Runs 2 5 first_four (2 ∷ 0 ∷ [])
two-picked = picks 2 4 first_four (0 ∷ []) 2 (three-found 2) (root-done 2)
    (next 2 first_four (0 ∷ []) 2 (2 ∷ []) refl (inl (omega arith), tt)
    (inl (0, omega arith, refl), (inr (inl (omega arith)), (inr (inr (refl, omega arith)), (inr (inr (refl, omega arith)), tt)))))

three-picked : Runs 2 6 first_four (3 ∷ 2 ∷ 0 ∷ [])
three-picked = picks 2 5 first_four (2 ∷ 0 ∷ []) 3 two-picked (done 2 first_four 2 (0 ∷ []) (2 ∷ []) refl tt)
    (next 2 first_four (2 ∷ 0 ∷ []) 3 (3 ∷ []) refl (inl (omega arith), (inl (omega arith), tt))
    (inl (1, omega arith, refl), (inr (inl (omega arith)), (inl (0, omega arith, refl), (inr (inr (refl, omega arith)), tt)))))

four-found : Runs 2 7 all_five (3 ∷ 2 ∷ 0 ∷ [])
four-found = finds 2 6 first_four 3 (2 ∷ 0 ∷ []) (3 ∷ []) 4 three-picked refl (four-new 2)

four-picked : Runs 2 8 all_five (4 ∷ 3 ∷ 2 ∷ 0 ∷ [])
four-picked = picks 2 7 all_five (3 ∷ 2 ∷ 0 ∷ []) 4 four-found (three-done 2 (2 ∷ 0 ∷ []))
    (next 2 all_five (3 ∷ 2 ∷ 0 ∷ []) 4 (3 ∷ 4 ∷ []) refl (inl (omega arith), (inl (omega arith), (inl (omega arith), tt))) (
      inl (2, omega arith, refl),
      (
        inr (inl (omega arith)),
        (
          inl (1, omega arith, refl),
          (
            inl (0, omega arith, refl),
            (inr (inr (refl, omega arith)), tt),
          ),
        ),
      ),
    ))

all-picked : Runs 2 9 all_five (1 ∷ 4 ∷ 3 ∷ 2 ∷ 0 ∷ [])
all-picked = picks 2 8 all_five (4 ∷ 3 ∷ 2 ∷ 0 ∷ []) 1 four-picked (done 2 all_five 4 (3 ∷ 2 ∷ 0 ∷ []) (3 ∷ 4 ∷ []) refl tt)
    (next 2 all_five (4 ∷ 3 ∷ 2 ∷ 0 ∷ []) 1 (1 ∷ []) refl (
      inr (omega arith),
      (
        inr (omega arith),
        (
          inr (omega arith),
          (inl (omega arith), tt),
        ),
      ),
    ) (
      inl (3, omega arith, refl),
      (
        inr (inr (refl, omega arith)),
        (
          inl (2, omega arith, refl),
          (
            inl (
              1,
              omega arith,
              refl,
            ),
            (inl (0, omega arith, refl), tt),
          ),
        ),
      ),
    ))

over : IsOver five_nodes (weighted 2) all_five (1 ∷ 4 ∷ 3 ∷ 2 ∷ 0 ∷ [])
over = record {
  comes = (9, all-picked);
  done = done 2 all_five 1 (4 ∷ 3 ∷ 2 ∷ 0 ∷ []) (1 ∷ []) refl tt;
  all = all-in 2 (1 ∷ 4 ∷ 3 ∷ 2 ∷ 0 ∷ []) (4, omega arith, refl) (0, omega arith, refl) (3, omega arith, refl) (2, omega arith, refl)
      (1, omega arith, refl);
}

stop : (limit : ℕ) → 4 ≤ limit → IsStop five_nodes (weighted 2) (to_reach 4 limit) first_four (3 ∷ 4 ∷ [])
stop limit room = record {
  begins = (3 ∷ 2 ∷ 0 ∷ [], (7, four-found));
  unsolved = none-solved 2 4 limit first_four (inl (omega arith), (inl (omega arith), (inl (omega arith), (inl (omega arith), tt))));
  room = room;
  stops = inl refl;
}

-- ---- with weight 0

one-picked : Runs 0 5 first_four (1 ∷ 0 ∷ [])
one-picked = picks 0 4 first_four (0 ∷ []) 1 (three-found 0) (root-done 0)
    (next 0 first_four (0 ∷ []) 1 (1 ∷ []) refl (inl (omega arith), tt)
    (inl (0, omega arith, refl), (inr (inr (refl, omega arith)), (inr (inr (refl, omega arith)), (inr (inr (refl, omega arith)), tt)))))

second-picked : Runs 0 6 first_four (2 ∷ 1 ∷ 0 ∷ [])
second-picked = picks 0 5 first_four (1 ∷ 0 ∷ []) 2 one-picked (done 0 first_four 1 (0 ∷ []) (1 ∷ []) refl tt)
    (next 0 first_four (1 ∷ 0 ∷ []) 2 (2 ∷ []) refl (inl (omega arith), (inl (omega arith), tt))
    (inl (1, omega arith, refl), (inl (0, omega arith, refl), (inr (inr (refl, omega arith)), (inr (inr (refl, omega arith)), tt)))))

third-picked : Runs 0 7 first_four (3 ∷ 2 ∷ 1 ∷ 0 ∷ [])
third-picked = picks 0 6 first_four (2 ∷ 1 ∷ 0 ∷ []) 3 second-picked (done 0 first_four 2 (1 ∷ 0 ∷ []) (2 ∷ []) refl tt)
    (next 0 first_four (2 ∷ 1 ∷ 0 ∷ []) 3 (3 ∷ []) refl (inl (omega arith), (inl (omega arith), (inl (omega arith), tt)))
    (inl (2, omega arith, refl), (inl (1, omega arith, refl), (inl (0, omega arith, refl), (inr (inr (refl, omega arith)), tt)))))

fifth-found : Runs 0 8 all_five (3 ∷ 2 ∷ 1 ∷ 0 ∷ [])
fifth-found = finds 0 7 first_four 3 (2 ∷ 1 ∷ 0 ∷ []) (3 ∷ []) 4 third-picked refl (four-new 0)

fifth-picked : Runs 0 9 all_five (4 ∷ 3 ∷ 2 ∷ 1 ∷ 0 ∷ [])
fifth-picked = picks 0 8 all_five (3 ∷ 2 ∷ 1 ∷ 0 ∷ []) 4 fifth-found (three-done 0 (2 ∷ 1 ∷ 0 ∷ []))
    (next 0 all_five (3 ∷ 2 ∷ 1 ∷ 0 ∷ []) 4 (3 ∷ 4 ∷ []) refl (
      inl (omega arith),
      (
        inl (omega arith),
        (inl (omega arith), (inl (omega arith), tt)),
      ),
    ) (
      inl (3, omega arith, refl),
      (
        inl (2, omega arith, refl),
        (
          inl (1, omega arith, refl),
          (
            inl (
              0,
              omega arith,
              refl,
            ),
            (inr (inr (refl, omega arith)), tt),
          ),
        ),
      ),
    ))

pub order_facts : OrderFacts
order_facts = record {
  by_value = over;
  blindly = record {
    comes = (9, fifth-picked);
    done = done 0 all_five 4 (3 ∷ 2 ∷ 1 ∷ 0 ∷ []) (3 ∷ 4 ∷ []) refl tt;
    all = all-in 0 (4 ∷ 3 ∷ 2 ∷ 1 ∷ 0 ∷ []) (4, omega arith, refl) (3, omega arith, refl) (2, omega arith, refl) (1, omega arith, refl)
        (0, omega arith, refl);
  };
  found = record { unlimited = unlimited 2 4 5; earlier = first_four; stop = stop 5 (omega arith); room = omega arith };
  no_room = record { unlimited = unlimited 2 4 4; last = 3 ∷ 4 ∷ []; stop = stop 4 (omega arith); full = refl; moves_are = refl };
  exhausted = record {
    unlimited = unlimited 2 5 5;
    lists = all_five;
    picked = 1 ∷ 4 ∷ 3 ∷ 2 ∷ 0 ∷ [];
    over = over;
    unsolved = none-solved 2 5 5 all_five
        (inl (omega arith), (inl (omega arith), (inl (omega arith), (inl (omega arith), (inl (omega arith), tt)))));
    room = omega arith;
  };
}
