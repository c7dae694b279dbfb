-- Breadth-first search over any order of lists of moves: what is known of the found lists while the moves of a node are tried.
use Rattle.std.proofs.Common.{◌≡◌, ℕ, ◌<◌, ◌≤◌, ◌⊎◌, List, [], ◌∷◌, ◌++◌, length, refl, sym, ◌∙◌, ap, subst, inl, inr, arith, Some, slice_get, Contains, append_assoc}
use Rattle.std.proofs.lemmas.List.{append-nil}
use Rattle.px_order.specs.Spaces.{Space, CanMake, reached, IsLeast, IsBeginning, IsAll}
use Rattle.px_order.specs.Places.{order_of, place_of, contains_place, place-within-list, at_index}

-- what the proof asks of the order of lists of moves
pub record IsMoveOrder {M : Type 0} (before : List M → List M → Type 0) : Type 0 where
  pub irreflexive : (ms : List M) → ¬ before ms ms
  pub transitive : (ks ms ns : List M) → before ks ms → before ms ns → before ks ns
  pub total : (ms ns : List M) → before ms ns ⊎ ((ms ≡ ns) ⊎ before ns ms)
  pub first : (ms : List M) → ¬ before ms []
  pub longer : (ms : List M) (m : M) → before ms (ms ++ m ∷ [])
  pub goes_on : (ms ns : List M) (m n : M) → before ms ns → before (ms ++ m ∷ []) (ns ++ n ∷ [])

module _ {M : Type 0} (before : List M → List M → Type 0) (sound : IsMoveOrder before) where
  pub before-left : (p q r : List M) → (¬ before q p) → before q r → before p r
  before-left p q r h g = elim (sound.total p q) [
    | inl less ↦ sound.transitive p q r less g
    | inr (inl e) ↦ subst (λ (x : List M). before x r) (sym e) g
    | inr (inr more) ↦ absurd (h more)
  ]

  pub before-right : (p q r : List M) → before p q → (¬ before r q) → before p r
  before-right p q r h g = elim (sound.total q r) [
    | inl less ↦ sound.transitive p q r h less
    | inr (inl e) ↦ subst (λ (x : List M). before p x) e h
    | inr (inr more) ↦ absurd (g more)
  ]

  pub goes_on-not : (p q : List M) (m : M) → (¬ before q p) → ¬ (before (q ++ m ∷ []) (p ++ m ∷ []))
  goes_on-not p q m h g = elim (sound.total p q) [
    | inl less ↦ sound.irreflexive _ (sound.transitive _ _ _ g (sound.goes_on p q m m less))
    | inr (inl e) ↦ sound.irreflexive _ (subst (λ (x : List M). before (x ++ m ∷ []) (p ++ m ∷ [])) (sym e) g)
    | inr (inr more) ↦ h more
  ]

  pub not_before-trans : (p q r : List M) → (¬ before q p) → (¬ before r q) → ¬ before r p
  not_before-trans p q r h g more = h (before-left q r p g more)

module _ {N M : Type 0} (space : Space N M) (before : List M → List M → Type 0) (sound : IsMoveOrder before) where
  abbrev pub goes : List M → N
  goes moves = reached space space.start moves

  abbrev pub made : List M → Type 0
  made moves = CanMake space space.start moves

  -- the move at the place was tried: that of an earlier place, or one of those tried at the next place
  abbrev pub IsTried : ℕ → (M → Type 0) → ℕ → M → Type 0
  IsTried next tried i m = (i < next) ⊎ ((i ≡ next) × tried m)

  -- What the search knows: the least lists of the nodes found so far, the place of the node whose moves are being tried, and the
  -- moves of it that were tried.
  pub record Frontier (found : List (List M)) (next : ℕ) (tried : M → Type 0) : Type 0 where
    pub root : slice_get found 0 ≡ Some []
    pub can : (moves : List M) → Contains found moves → made moves
    pub tried_from : (moves : List M) → Contains found moves
        → (moves ≡ []) ⊎ ((i : ℕ) × (p : List M) × (m : M) × (slice_get found i ≡ Some p) × IsTried next tried i m × (moves ≡ p ++ m ∷ []))
    pub ascending : (i j : ℕ) (p q : List M) → i < j → slice_get found i ≡ Some p → slice_get found j ≡ Some q → before p q
    pub distinct : (p q : List M) → Contains found p → Contains found q → goes p ≡ goes q → p ≡ q
    pub covered : (i : ℕ) (p : List M) (m : M) → slice_get found i ≡ Some p → IsTried next tried i m → space.allows (goes p) m
        → (q : List M) × Contains found q × (goes q ≡ space.after (goes p) m) × (¬ (before (p ++ m ∷ []) q))
    pub pending : (p : List M) (m n : M) → slice_get found next ≡ Some p → space.allows (goes p) m → (¬ tried m) → tried n
        → before (p ++ n ∷ []) (p ++ m ∷ [])

  pub reached-append : (node : N) (ms ns : List M) → reached space node (ms ++ ns) ≡ reached space (reached space node ms) ns
  reached-append node [] ns = refl
  reached-append node (m ∷ ms) ns = reached-append (space.after node m) ms ns

  pub CanMake-append : (node : N) (ms : List M) (m : M) → CanMake space node ms → space.allows (reached space node ms) m
      → CanMake space node (ms ++ m ∷ [])
  CanMake-append node [] m h g = (g, tt)
  CanMake-append node (k ∷ ms) m h g = (h.0, CanMake-append (space.after node k) ms m h.1 g)

  -- found before the list, to the same node
  abbrev pub IsCovered : List (List M) → List M → Type 0
  IsCovered found moves = (i : ℕ) × (q : List M) × (slice_get found i ≡ Some q) × (goes q ≡ goes moves) × (¬ before moves q)

  -- after all that was found
  abbrev pub IsBeyond : List (List M) → List M → Type 0
  IsBeyond found moves = (q : List M) → Contains found q → before q moves

  IsBeyond-more : (found : List (List M)) (moves rest : List M) → IsBeyond found moves → IsBeyond found (moves ++ rest)
  IsBeyond-more found moves [] h = rw append-nil h
  IsBeyond-more found moves (m ∷ rest) h =
      let more : IsBeyond found (moves ++ m ∷ []) = λ q has. sound.transitive q moves (moves ++ m ∷ []) (h q has) (sound.longer moves m) in
      subst (λ (x : List M). IsBeyond found x) (append_assoc moves (m ∷ []) rest) (IsBeyond-more found (moves ++ m ∷ []) rest more)

  tried_or_not : (next : ℕ) (tried : M → Type 0) (decided : (m : M) → tried m ⊎ (¬ tried m)) (i : ℕ) (m : M)
      → IsTried next tried i m ⊎ ((next ≤ i) × (i ≡ next → ¬ tried m))
  tried_or_not next tried decided i m = elim (order_of i next) [
    | inl less ↦ inl (inl less)
    | inr more ↦ elim (decided m) [
      | inl h ↦ elim (order_of next i) [
        | inl above ↦ inr (more, λ e _. omega arith)
        | inr below ↦ inl (inr (omega arith, h))
      ]
      | inr untried ↦ inr (more, λ _ h. untried h)
    ]
  ]

  module _ (found : List (List M)) (next : ℕ) (tried : M → Type 0) (decided : (m : M) → tried m ⊎ (¬ tried m))
      (f : Frontier found next tried) where
    -- what is found before the list that leaves the tried moves
    pub leaves_tried : (i : ℕ) (q moves : List M) (m : M) → slice_get found i ≡ Some q → (¬ before moves q) → next ≤ i
        → (i ≡ next → ¬ tried m) → space.allows (goes q) m → IsBeyond found (moves ++ m ∷ [])
    leaves_tried i q moves m at le later untried can x has = elim (f.tried_from x has) [
      | inl e ↦ subst (λ (y : List M). before y (moves ++ m ∷ [])) (sym e)
          (before-left before sound [] moves (moves ++ m ∷ []) (sound.first moves) (sound.longer moves m))
      | inr from ↦ subst (λ (y : List M). before y (moves ++ m ∷ [])) (sym from.5)
          (before-right before sound _ (q ++ m ∷ []) _ (earlier from.0 from.1 from.2 from.3 from.4) (goes_on-not before sound q moves m le))
    ]
      where
        earlier : (j : ℕ) (p : List M) (n : M) → slice_get found j ≡ Some p → IsTried next tried j n → before (p ++ n ∷ []) (q ++ m ∷ [])
        earlier j p n at_j (inl less) = sound.goes_on p q n m (f.ascending j i p q (omega arith) at_j at)
        earlier j p n at_j (inr (e, has_n)) = elim (order_of j i) [
          | inl less ↦ sound.goes_on p q n m (f.ascending j i p q less at_j at)
          | inr more ↦
              let number : i ≡ next = omega arith in
              let at_next : slice_get found next ≡ Some q = ap (slice_get found) (sym number) ∙ at in
              let same_list : p ≡ q = cc (ap (slice_get found) e, at_j, at_next) in
              subst (λ (y : List M). before (y ++ n ∷ []) (q ++ m ∷ [])) (sym same_list)
              (f.pending q m n at_next can (untried number) has_n)
        ]

    classify : (rest moves : List M) → IsCovered found moves → CanMake space (goes moves) rest
        → IsCovered found (moves ++ rest) ⊎ ((next < length found) × IsBeyond found (moves ++ rest))
    classify [] moves c can = inl (rw append-nil c)
    classify (m ∷ rest) moves c can =
        let can_q : space.allows (goes c.1) m = subst (λ (x : N). space.allows x m) (sym c.3) can.0 in
        elim (tried_or_not next tried decided c.0 m) [
          | inl tried_m ↦
              let r = f.covered c.0 c.1 m c.2 tried_m can_q in
              let at = place_of found r.0 r.1 in
              let goal : goes r.0 ≡ goes (moves ++ m ∷ []) =
              r.2 ∙ ap (λ (x : N). space.after x m) c.3 ∙ sym (reached-append space.start moves (m ∷ [])) in
              let le : ¬ before (moves ++ m ∷ []) r.0 =
              not_before-trans before sound r.0 (c.1 ++ m ∷ []) (moves ++ m ∷ []) r.3 (goes_on-not before sound c.1 moves m c.4) in
              let rest_can : CanMake space (goes (moves ++ m ∷ [])) rest = rw (reached-append space.start moves (m ∷ [])) can.1 in
              let again = classify rest (moves ++ m ∷ []) (at.0, r.0, at.1, goal, le) rest_can in
              subst (λ (x : List M). IsCovered found x ⊎ ((next < length found) × IsBeyond found x))
              (append_assoc moves (m ∷ []) rest) again
          | inr untried ↦
              let beyond = leaves_tried c.0 c.1 moves m c.2 c.4 untried.0 untried.1 can_q in
              let inside = place-within-list found c.0 c.1 c.2 in
              inr (
                omega (arith, untried.0, inside),
                subst (λ (x : List M). IsBeyond found x) (append_assoc moves (m ∷ []) rest)
                    (IsBeyond-more found (moves ++ m ∷ []) rest beyond),
              )
        ]

    pub found_or_beyond : (moves : List M) → made moves → IsCovered found moves ⊎ ((next < length found) × IsBeyond found moves)
    found_or_beyond moves can = classify moves [] (0, [], f.root, refl, sound.irreflexive []) can

    -- a least list that leads to a found node is found
    covered_least : (moves : List M) → IsLeast space before space.start moves → IsCovered found moves → Contains found moves
    covered_least moves least c = elim (sound.total c.1 moves) [
      | inl less ↦ absurd (least.least c.1 (f.can c.1 (contains_place found c.0 c.1 c.2)) c.3 less)
      | inr (inl e) ↦ subst (λ (x : List M). Contains found x) e (contains_place found c.0 c.1 c.2)
      | inr (inr more) ↦ absurd (c.4 more)
    ]

    pub frontier-beginning : IsBeginning space before space.start found
    frontier-beginning = record {
      least = λ moves has. record {
        made = f.can moves has;
        least = λ others can e less. elim (found_or_beyond others can) [
          | inl c ↦ c.4 (subst (λ (x : List M). before others x)
              (f.distinct moves c.1 has (contains_place found c.0 c.1 c.2) (sym e ∙ sym c.3)) less)
          | inr b ↦ sound.irreflexive moves (sound.transitive moves others moves (b.1 moves has) less)
        ];
      };
      ascending = λ i j d h g. f.ascending i j _ _ h (at_index found i d (omega arith)) (at_index found j d g);
      closed = λ moves later has least less. elim (found_or_beyond moves least.made) [
        | inl c ↦ covered_least moves least c
        | inr b ↦ absurd (sound.irreflexive later (sound.transitive later moves later (b.1 later has) less))
      ];
    }

    -- where each found node was gone through, each node that moves reach is found
    pub frontier-reaches : length found ≤ next → (moves : List M) → made moves → (q : List M) × Contains found q × (goes q ≡ goes moves)
    frontier-reaches all moves can = elim (found_or_beyond moves can) [
      | inl c ↦ (c.1, contains_place found c.0 c.1 c.2, c.3)
      | inr b ↦ absurd (omega (arith, b.0))
    ]

    -- where each found node was gone through, these are all nodes that moves reach
    pub frontier-all : length found ≤ next → IsAll space before space.start found
    frontier-all all = record {
      beginning = frontier-beginning;
      every = λ moves least. elim (found_or_beyond moves least.made) [
        | inl c ↦ covered_least moves least c
        | inr b ↦ absurd (omega (arith, b.0))
      ];
    }
