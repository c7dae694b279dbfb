-- A search goes on, step by step, until a node is solved, or there is no room, or no place is left: by whatever order, where each node has
-- finitely many moves.
use Rattle.std.specs.Prelude.{◌≡◌, ◌<◌, ◌≤◌, ◌⊎◌, ◌+◌, ◌-◌, ℕ, Some, List, [], ◌∷◌, ◌++◌, length, slice_get, slice_index_or, Contains}
use Rattle.std.specs.Cmp.{tied_itself}
use Rattle.std.specs.declared.cmp.Ordering.TheVariants.{Less, Equal}
use Rattle.std.proofs.Common.{zero, suc, refl, sym, ap, ◌∙◌, subst, inl, inr, arith}
use Rattle.std.proofs.lemmas.List.{length-append}
use Rattle.std.proofs.lemmas.List.Elements.{Contains-push_cases}
use Rattle.px_base.specs.ListLaws.{Contains-cases, Contains-first, Contains-later, Contains-none, Contains-one}
use Rattle.px_order.specs.Ends.{Aim, IsStop, NoneSolvedAmong}
use Rattle.px_order.specs.Places.{at_index, order_of, place-within-list, some-one}
use Rattle.px_order.specs.RunLaws.{behind}
use Rattle.px_order.specs.Runs.{Comes, IsDone, IsGoneOver, IsNew, IsNext, IsOver, Reaches}
use Rattle.px_order.specs.Spaces.{Order, Space, IsLinear, IsLower, at, value}
use Rattle.px_ends.proofs.PickCounts.{picks_left}
use Rattle.px_totality.specs.Finite.{IsFinite}
use Rattle.px_totality.proofs.FiniteLaws.{contains_or_not, finite_below}
use Rattle.px_totality.proofs.Least.{none_or_least}

same-number : (a b : ℕ) → (a ≡ b) ⊎ (¬ (a ≡ b))
same-number a b = elim (order_of a b) [
  | inl less ↦ inr (λ e. omega (arith, e, less))
  | inr more ↦ elim (order_of b a) [
    | inl less ↦ inr (λ e. omega (arith, e, less))
    | inr no_more ↦ inl (omega (arith, more, no_more))
  ]
]

module _ {N M Q : Type 0} (space : Space N M) (order : Order N M) (linear : IsLinear order) (aim : Aim N Q)
    (finite : (node : N) → IsFinite (space.allows node)) where
  abbrev Reached : List (List M) → N → Type 0
  Reached found node = Reaches space order found node

  abbrev node_of : List M → N
  node_of moves = at space moves

  -- ---- the moves of a node

  never_lower : (m : M) → ¬ IsLower order m m
  never_lower m h = let e : Less ≡ Equal = sym h ∙ tied_itself linear.total m in cc

  -- a move to a node that isn't found
  abbrev IsFresh : List (List M) → List M → M → Type 0
  IsFresh found moves m = space.allows (node_of moves) m × (¬ Reached found (space.after (node_of moves) m))

  -- of finitely many moves, those that aren't fresh lead to nodes that are found
  each-reached : (found : List (List M)) (moves : List M) (P : M → Type 0) (ms : List M)
      → ((m : M) → Contains ms m → P m → ¬ IsFresh found moves m)
      → ¬ ¬ ((m : M) → Contains ms m → P m → space.allows (node_of moves) m → Reached found (space.after (node_of moves) m))
  each-reached found moves P [] not_fresh never = never (λ m has. absurd (Contains-none m has))
  each-reached found moves P (k ∷ ms) not_fresh never =
      each-reached found moves P ms (λ m has. not_fresh m (Contains-later k ms m has)) (λ all. here (λ first. never
      (λ m has. elim (Contains-cases k ms m has) [
        | inl e ↦ subst (λ (x : M). P x → space.allows (node_of moves) x → Reached found (space.after (node_of moves) x)) e first
        | inr later ↦ all m later
      ])))
    where
      here : ¬ ¬ (P k → space.allows (node_of moves) k → Reached found (space.after (node_of moves) k))
      here refuse = refuse (λ p can. absurd (not_fresh k (Contains-first k ms) p (can, λ r. refuse (λ _ _. r))))

  gone-or-new : (found : List (List M)) (moves : List M)
      → ¬ ¬ (IsGoneOver space order found moves ⊎ ((m : M) × IsNew space order found moves m))
  gone-or-new found moves never =
      none_or_least (IsLower order) never_lower linear.total.trans (IsFresh found moves) (finite (node_of moves)).members (λ r. elim r [
        | inl none ↦ each-reached found moves (λ m. Unit {0}) (finite (node_of moves)).members (λ m has _. none m has)
            (λ all. never (inl (λ m can. all m ((finite (node_of moves)).all m can) tt can)))
        | inr least ↦ each-reached found moves (λ m. IsLower order m least.0) (finite (node_of moves)).members
            (λ m has low fresh. least.1.least m has fresh low)
            (λ all. never (inr (
              least.0,
              record {
                allowed = least.1.has.0;
                new = least.1.has.1;
                first = λ n can low. all n ((finite (node_of moves)).all n can) low can;
              },
            )))
      ])

  -- all moves from the place that was picked last lead to nodes that are found, or a further list is found
  pub record IsFurther (found : List (List M)) (picked : List ℕ) : Type 0 where
    pub place : ℕ
    pub earlier : List ℕ
    pub last : picked ≡ place ∷ earlier
    pub moves : List M
    pub stands : slice_get found place ≡ Some moves
    pub m : M
    pub is_new : IsNew space order found moves m

  done-or-further : (found : List (List M)) (picked : List ℕ) → Comes space order found picked
      → ¬ ¬ (IsDone space order found picked ⊎ IsFurther found picked)
  done-or-further found [] comes never = never (inl tt)
  done-or-further found (place ∷ earlier) comes never =
      let here : List M = slice_index_or found place [] in
      let stands : slice_get found place ≡ Some here = at_index found place []
      ((behind space order comes.0 found (place ∷ earlier) comes.1).within place (Contains-first place earlier)) in
      gone-or-new found here (λ r. elim r [
        | inl gone ↦ never (inl (λ moves at_place. subst (λ (l : List M). IsGoneOver space order found l)
            (some-one here moves (sym stands ∙ at_place)) gone))
        | inr new ↦ never (inr (record {
          place = place;
          earlier = earlier;
          last = refl;
          moves = here;
          stands = stands;
          m = new.0;
          is_new = new.1;
        }))
      ])

  -- ---- the next place

  module _ (found : List (List M)) (picked : List ℕ) where
    abbrev worth : ℕ → ℕ
    worth k = value space order (slice_index_or found k [])

    -- a lesser value is before, and of one value the lesser place
    abbrev Before : ℕ → ℕ → Type 0
    Before a b = (worth a < worth b) ⊎ ((worth a ≡ worth b) × (a < b))

    before-self : (a : ℕ) → ¬ Before a a
    before-self a (inl less) = omega (arith, less)
    before-self a (inr (e, less)) = omega (arith, less)

    before-trans : (a b c : ℕ) → Before a b → Before b c → Before a c
    before-trans a b c (inl h) (inl g) = inl (omega (arith, h, g))
    before-trans a b c (inl h) (inr g) = inl (omega (arith, h, g.0))
    before-trans a b c (inr h) (inl g) = inl (omega (arith, h.0, g))
    before-trans a b c (inr h) (inr g) = inr (h.0 ∙ g.0, omega (arith, h.1, g.1))

    abbrev IsLeft : ℕ → Type 0
    IsLeft k = (k < length found) × (¬ Contains picked k)

    list-at : (k : ℕ) (moves : List M) → slice_get found k ≡ Some moves → slice_index_or found k [] ≡ moves
    list-at k moves at_k =
        some-one (slice_index_or found k []) moves (sym (at_index found k [] (place-within-list found k moves at_k)) ∙ at_k)

    not-before : (a b : ℕ) → (¬ Before b a) → (worth a < worth b) ⊎ ((worth a ≡ worth b) × (a ≤ b))
    not-before a b not = elim (order_of (worth a) (worth b)) [
      | inl less ↦ inl less
      | inr more ↦ elim (order_of (worth b) (worth a)) [
        | inl less ↦ absurd (not (inl less))
        | inr no_more ↦
            let same : worth a ≡ worth b = omega (arith, more, no_more) in
            elim (order_of b a) [
              | inl low ↦ absurd (not (inr (sym same, low)))
              | inr high ↦ inr (same, high)
            ]
      ]
    ]

    next-or-all : ¬ ¬ (((place : ℕ) × IsNext space order found picked place)
        ⊎ ((k : ℕ) (moves : List M) → slice_get found k ≡ Some moves → Contains picked k))
    next-or-all never = none_or_least Before before-self before-trans IsLeft (finite_below (length found)).members (λ r. elim r [
      | inl none ↦ never (inr (λ k moves at_k. elim (contains_or_not same-number picked k) [
        | inl has ↦ has
        | inr absent ↦
            let within = place-within-list found k moves at_k in
            absurd (none k ((finite_below (length found)).all k within) (within, absent))
      ]))
      | inr least ↦ never (inl (
        least.0,
        record {
          moves = slice_index_or found least.0 [];
          stands = at_index found least.0 [] least.1.has.0;
          fresh = least.1.has.1;
          least = λ k other at_k fresh.
              let within = place-within-list found k other at_k in
              subst (λ (l : List M). (worth least.0 < value space order l) ⊎ ((worth least.0 ≡ value space order l) × (least.0 ≤ k)))
              (list-at k other at_k)
              (not-before least.0 k (least.1.least k ((finite_below (length found)).all k within) (within, fresh)));
        },
      ))
    ])

  -- ---- until one is solved, or there is no room, or no place is left

  pub record Stopped : Type 0 where
    pub earlier : List (List M)
    pub last : List M
    pub stop : IsStop space order aim earlier last

  pub record Finished : Type 0 where
    pub lists : List (List M)
    pub picked : List ℕ
    pub over : IsOver space order lists picked
    pub unsolved : NoneSolvedAmong space aim lists
    pub room : length lists ≤ aim.limit

  record State (found : List (List M)) (picked : List ℕ) : Type 0 where
    comes : Comes space order found picked
    unsolved : NoneSolvedAmong space aim found
    room : length found ≤ aim.limit

  picked-state : (found : List (List M)) (picked : List ℕ) → State found picked → IsDone space order found picked → (place : ℕ)
      → IsNext space order found picked place → State found (place ∷ picked)
  picked-state found picked s done place next = record {
    comes = (
      suc s.comes.0,
      (found, picked, s.comes.1, inl (record { place = place; done = done; next = next; found_is = refl; picked_is = refl })),
    );
    unsolved = s.unsolved;
    room = s.room;
  }

  module _ (found : List (List M)) (picked : List ℕ) (s : State found picked) (f : IsFurther found picked) where
    abbrev new_list : List M
    new_list = f.moves ++ f.m ∷ []

    comes-further : Comes space order (found ++ new_list ∷ []) picked
    comes-further = (
      suc s.comes.0,
      (
        found,
        picked,
        s.comes.1,
        inr (record {
          place = f.place;
          earlier = f.earlier;
          last = f.last;
          moves = f.moves;
          stands = f.stands;
          m = f.m;
          is_new = f.is_new;
          found_is = refl;
          picked_is = refl;
        }),
      ),
    )

    stopped : aim.solved (node_of new_list) ⊎ (length found ≡ aim.limit) → Stopped
    stopped stops = record {
      earlier = found;
      last = new_list;
      stop = record { begins = (picked, comes-further); unsolved = s.unsolved; room = s.room; stops = stops };
    }

    further-state : length found < aim.limit → (¬ aim.solved (node_of new_list)) → State (found ++ new_list ∷ []) picked
    further-state room unsolved = record {
      comes = comes-further;
      unsolved = λ moves has solved. elim (Contains-push_cases found new_list moves has) [
        | inl old ↦ s.unsolved moves old solved
        | inr e ↦ unsolved (subst (λ (l : List M). aim.solved (node_of l)) (sym e) solved)
      ];
      room = omega (arith, room, length-append found (new_list ∷ []));
    }

  abbrev left : List (List M) → List ℕ → ℕ
  left found picked = (aim.limit - length found) + (aim.limit - length picked)

  from : (fuel : ℕ) (found : List (List M)) (picked : List ℕ) → State found picked → left found picked < fuel → ¬ ¬ (Stopped ⊎ Finished)
  from zero found picked s enough never = omega (arith, enough)
  from (suc fuel) found picked s enough never =
      done-or-further found picked s.comes (λ r. elim r [
        | inl done ↦ next-or-all found picked (λ q. elim q [
          | inl next ↦ from fuel found (next.0 ∷ picked) (picked-state found picked s done next.0 next.1)
              (let few = picks_left space order found picked next.0 s.comes next.1
              (place-within-list found next.0 next.1.moves next.1.stands) in omega (arith, enough, few, s.room)) never
          | inr all ↦ never (inr (record {
            lists = found;
            picked = picked;
            over = record { comes = s.comes; done = done; all = all };
            unsolved = s.unsolved;
            room = s.room;
          }))
        ])
        | inr further ↦ elim (order_of (length found) aim.limit) [
          | inl less ↦ from fuel (found ++ (further.moves ++ further.m ∷ []) ∷ []) picked
              (further-state found picked s further less (λ solved. never (inl (stopped found picked s further (inl solved)))))
              (omega (arith, enough, less, length-append found ((further.moves ++ further.m ∷ []) ∷ []))) never
          | inr full ↦ never (inl (stopped found picked s further (inr (omega (arith, full, s.room)))))
        ]
      ])

  none-solved : NoneSolvedAmong space aim []
  none-solved moves has solved = Contains-none moves has

  at-start : aim.solved (node_of []) ⊎ (0 ≡ aim.limit) → Stopped
  at-start stops = record {
    earlier = [];
    last = [];
    stop = record { begins = ([], (0, (refl, refl))); unsolved = none-solved; room = omega arith; stops = stops };
  }

  pub stopped-or-finished : ¬ ¬ (Stopped ⊎ Finished)
  stopped-or-finished never = elim (order_of 0 aim.limit) [
    | inr none ↦ never (inl (at-start (inr (omega (arith, none)))))
    | inl some ↦ from (suc (left ([] ∷ []) [])) ([] ∷ []) [] (record {
      comes = (0, (refl, refl));
      unsolved = λ moves has solved. never (inl (at-start (inl (subst (λ (l : List M). aim.solved (node_of l))
          (sym (Contains-one [] moves has)) solved))));
      room = omega (arith, some);
    }) (omega arith) never
  ]
