-- Where the weight is 0, the found lists are the least lists of moves to their nodes, in order.
use Rattle.std.specs.Prelude.{Option, None}
use Rattle.std.proofs.Common.{◌≡◌, ℕ, zero, suc, ◌<◌, ◌≤◌, ◌⊎◌, List, [], ◌∷◌, ◌++◌, length, refl, sym, ◌∙◌, ap, subst, inl, inr, arith, Some, slice_get, slice_index_or, Contains}
use Rattle.std.proofs.lemmas.List.Elements.{Contains-append_left, Contains-push, Contains-push_cases}
use Rattle.px_order.specs.Spaces.{Space, Order, IsLower, blind, CanMake, reached, IsBeginning, IsAll}
use Rattle.px_order.specs.Runs.{Reaches, IsGoneOver, IsDone, IsNext, IsNew, Picks, Finds, RunsFor, Begins, IsOver}
use Rattle.px_order.specs.Places.{order_of, contains_place, place-within-list, at_index, push-cases, still_there, some-one, head-of}
use Rattle.px_order.specs.RunLaws.{made-push, node-push}
use Rattle.px_order.specs.Frontier.{IsMoveOrder, Frontier, IsTried, leaves_tried, frontier-beginning, frontier-all}

-- fewer moves come first, and then the lesser move where two lists part at their end
pub record IsByLength {M : Type 0} (before : List M → List M → Type 0) (lower : M → M → Type 0) : Type 0 where
  pub shorter : (ms ns : List M) → before ms ns → length ms ≤ length ns
  pub sideways : (ms : List M) (m n : M) → lower m n → before (ms ++ m ∷ []) (ms ++ n ∷ [])
  pub lower-total : (m n : M) → lower m n ⊎ ((m ≡ n) ⊎ lower n m)
  pub lower-transitive : (k m n : M) → lower k m → lower m n → lower k n

-- the numbers below, the greatest first
abbrev pub down_from : ℕ → List ℕ
down_from zero = []
down_from (suc k) = k ∷ down_from k

pub down_from-has : (c k : ℕ) → k < c → Contains (down_from c) k
down_from-has zero k h = absurd (omega arith)
down_from-has (suc c) k h = elim (order_of k c) [
  | inl less ↦ let r = down_from-has c k less in (suc r.0, omega (arith, r.1), r.2)
  | inr more ↦ (0, omega arith, omega (arith, more, h))
]

pub down_from-below : (c k : ℕ) → Contains (down_from c) k → k < c
down_from-below zero k h = absurd (omega (arith, h.1))
down_from-below (suc c) k (zero, h, e) = omega (arith, e)
down_from-below (suc c) k (suc j, h, e) = let r = down_from-below c k (j, omega arith, e) in omega (arith, r)

module _ {N M : Type 0} (space : Space N M) (before : List M → List M → Type 0) (sound : IsMoveOrder before) (order : Order N M)
    (by_length : IsByLength before (IsLower order)) where
  abbrev node : List M → N
  node moves = reached space space.start moves

  abbrev Known : List (List M) → ℕ → (M → Type 0) → Type 0
  Known found next tried = Frontier space before sound found next tried

  abbrev Reached : List (List M) → N → Type 0
  Reached found n = Reaches space (blind order) found n

  -- the moves up to the last one that led to a new node
  abbrev UpTo : Option M → M → Type 0
  UpTo None m = ⊥
  UpTo (Some last) m = (m ≡ last) ⊎ IsLower order m last

  lower-one_way : (m n : M) → IsLower order m n → ¬ IsLower order n m
  lower-one_way m n h g =
      sound.irreflexive (m ∷ []) (sound.transitive (m ∷ []) (n ∷ []) (m ∷ []) (by_length.sideways [] m n h) (by_length.sideways [] n m g))

  lower-other : (m n : M) → IsLower order m n → ¬ (m ≡ n)
  lower-other m n h e = lower-one_way m n h (subst (λ (x : M). IsLower order n x) (sym e) (subst (λ (x : M). IsLower order x n) e h))

  decided : (upto : Option M) (m : M) → UpTo upto m ⊎ (¬ UpTo upto m)
  decided None m = inr (λ h. h)
  decided (Some last) m = elim (by_length.lower-total m last) [
    | inl less ↦ inl (inr less)
    | inr (inl e) ↦ inl (inl e)
    | inr (inr more) ↦ inr (λ h. elim h [
      | inl e ↦ lower-other last m more (sym e)
      | inr less ↦ lower-one_way m last less more
    ])
  ]

  above : (upto : Option M) (m n : M) → UpTo upto n → (¬ UpTo upto m) → IsLower order n m
  above None m n h g = absurd h
  above (Some last) m n h g = elim (by_length.lower-total m last) [
    | inl less ↦ absurd (g (inr less))
    | inr (inl e) ↦ absurd (g (inl e))
    | inr (inr more) ↦ elim h [
      | inl e ↦ subst (λ (x : M). IsLower order x m) (sym e) more
      | inr less ↦ by_length.lower-transitive n last m less more
    ]
  ]

  begun : Known ([] ∷ []) 0 (UpTo None)
  begun = record {
    root = refl;
    can = λ moves has. subst (λ (x : List M). CanMake space space.start x) (only moves has) tt;
    tried_from = λ moves has. inl (sym (only moves has));
    ascending = λ i j p q less at_i at_j. absurd (omega (arith, less, place-within-list ([] ∷ []) j q at_j));
    distinct = λ p q has_p has_q e. sym (only p has_p) ∙ only q has_q;
    covered = λ i p m at tried. elim tried [ inl h ↦ absurd (omega (arith, h)) | inr h ↦ absurd h.1 ];
    pending = λ p m n at can not_yet has. absurd has;
  }
    where
      only : (moves : List M) → Contains ([] ∷ []) moves → [] ≡ moves
      only moves (zero, h, e) = e
      only moves (suc k, h, e) = absurd (omega arith)

  module _ (found : List (List M)) (c : ℕ) (upto : Option M) (f : Known found c (UpTo upto)) (p : List M)
      (stands : slice_get found c ≡ Some p) where
    -- what a move of the node leads to, if it is found, is found no later than the move leads there
    leads : (m : M) → space.allows (node p) m → Reached found (space.after (node p) m)
        → (q : List M) × Contains found q × (node q ≡ space.after (node p) m) × (¬ before (p ++ m ∷ []) q)
    leads m can r = elim (decided upto m) [
      | inl tried ↦ f.covered c p m stands (inr (refl, tried)) can
      | inr untried ↦ (
        r.0,
        r.1,
        r.2,
        λ less. sound.irreflexive r.0 (sound.transitive r.0 (p ++ m ∷ []) r.0
            (leaves_tried space before sound found c (UpTo upto) (decided upto) f c p p m stands (sound.irreflexive p) (omega arith)
            (λ _ h. untried h) can r.0 r.1) less),
      )
    ]

    same-list : (i : ℕ) (q : List M) → i ≡ c → slice_get found i ≡ Some q → p ≡ q
    same-list i q e at_i = some-one p q (sym stands ∙ ap (λ (k : ℕ). slice_get found k) (sym e) ∙ at_i)

    -- the node was gone through
    goes_next : IsGoneOver space (blind order) found p → Known found (suc c) (UpTo None)
    goes_next over = record {
      root = f.root;
      can = f.can;
      tried_from = λ x has. elim (f.tried_from x has) [
        | inl e ↦ inl e
        | inr t ↦ inr (t.0, t.1, t.2, t.3, inl (elim t.4 [ inl h ↦ omega (arith, h) | inr h ↦ omega (arith, h.0) ]), t.5)
      ];
      ascending = f.ascending;
      distinct = f.distinct;
      covered = λ i r n at_r tried can. elim tried [
        | inl h ↦ elim (order_of i c) [
          | inl less ↦ f.covered i r n at_r (inl less) can
          | inr more ↦ here i r n at_r (omega (arith, h, more)) can
        ]
        | inr h ↦ absurd h.1
      ];
      pending = λ q m n at_q can not_yet has. absurd has;
    }
      where
        here : (i : ℕ) (r : List M) (n : M) → slice_get found i ≡ Some r → i ≡ c → space.allows (node r) n
            → (q : List M) × Contains found q × (node q ≡ space.after (node r) n) × (¬ before (r ++ n ∷ []) q)
        here i r n at_r e =
            subst (λ (x : List M). space.allows (node x) n → (q : List M) × Contains found q × (node q ≡ space.after (node x) n)
            × (¬ before (x ++ n ∷ []) q))
            (same-list i r e at_r) (λ can. leads n can (over n can))

    -- a new node
    module _ (m : M) (new : IsNew space (blind order) found p m) where
      untried : ¬ UpTo upto m
      untried h = let r = f.covered c p m stands (inr (refl, h)) new.allowed in new.new (r.0, r.1, r.2)

      beyond : (q : List M) → Contains found q → before q (p ++ m ∷ [])
      beyond = leaves_tried space before sound found c (UpTo upto) (decided upto) f c p p m stands (sound.irreflexive p) (omega arith)
          (λ _ h. untried h) new.allowed

      more-tried : (i : ℕ) (n : M) → IsTried space before sound c (UpTo upto) i n
          → IsTried space before sound c (UpTo (Some m)) i n
      more-tried i n (inl h) = inl h
      more-tried i n (inr h) = inr (h.0, inr (above upto m n h.1 untried))

      leads_here : (n : M) → UpTo (Some m) n → space.allows (node p) n
          → (q : List M) × Contains (found ++ (p ++ m ∷ []) ∷ []) q × (node q ≡ space.after (node p) n) × (¬ before (p ++ n ∷ []) q)
      leads_here n (inl e) can = (
        p ++ m ∷ [],
        Contains-push found (p ++ m ∷ []),
        node-push space order space.start p m ∙ ap (λ (x : M). space.after (node p) x) (sym e),
        λ less. sound.irreflexive (p ++ m ∷ []) (subst (λ (x : M). before (p ++ x ∷ []) (p ++ m ∷ [])) e less),
      )
      leads_here n (inr less) can =
          let r = leads n can (new.first n can less) in (r.0, Contains-append_left found ((p ++ m ∷ []) ∷ []) r.0 r.1, r.2, r.3)

      not_there : (q : List M) → Contains found q → ¬ (node q ≡ node (p ++ m ∷ []))
      not_there q has e = new.new (q, has, e ∙ node-push space order space.start p m)

      finds_next : Known (found ++ (p ++ m ∷ []) ∷ []) c (UpTo (Some m))
      finds_next = record {
        root = still_there found ((p ++ m ∷ []) ∷ []) 0 [] f.root;
        can = λ x has. elim (Contains-push_cases found (p ++ m ∷ []) x has) [
          | inl old ↦ f.can x old
          | inr e ↦ subst (λ (y : List M). CanMake space space.start y) e
              (made-push space order space.start p m (f.can p (contains_place found c p stands)) new.allowed)
        ];
        tried_from = λ x has. elim (Contains-push_cases found (p ++ m ∷ []) x has) [
          | inl old ↦ elim (f.tried_from x old) [
            | inl e ↦ inl e
            | inr t ↦ inr (t.0, t.1, t.2, still_there found ((p ++ m ∷ []) ∷ []) t.0 t.1 t.3, more-tried t.0 t.2 t.4, t.5)
          ]
          | inr e ↦ inr (c, p, m, still_there found ((p ++ m ∷ []) ∷ []) c p stands, inr (refl, inl refl), sym e)
        ];
        ascending = λ i j q r less at_q at_r. elim (push-cases found (p ++ m ∷ []) r j at_r) [
          | inl old ↦ elim (push-cases found (p ++ m ∷ []) q i at_q) [
            | inl old_q ↦ f.ascending i j q r less old_q old
            | inr last ↦ absurd (omega (arith, less, last.0, place-within-list found j r old))
          ]
          | inr last ↦ elim (push-cases found (p ++ m ∷ []) q i at_q) [
            | inl old_q ↦ subst (λ (x : List M). before q x) last.1 (beyond q (contains_place found i q old_q))
            | inr both ↦ absurd (omega (arith, less, last.0, both.0))
          ]
        ];
        distinct = λ q r has_q has_r e. elim (Contains-push_cases found (p ++ m ∷ []) q has_q) [
          | inl old_q ↦ elim (Contains-push_cases found (p ++ m ∷ []) r has_r) [
            | inl old_r ↦ f.distinct q r old_q old_r e
            | inr e_r ↦ absurd (not_there q old_q (e ∙ sym (ap node e_r)))
          ]
          | inr e_q ↦ elim (Contains-push_cases found (p ++ m ∷ []) r has_r) [
            | inl old_r ↦ absurd (not_there r old_r (sym e ∙ sym (ap node e_q)))
            | inr e_r ↦ sym e_q ∙ e_r
          ]
        ];
        covered = λ i r n at_r tried can. elim (push-cases found (p ++ m ∷ []) r i at_r) [
          | inl old ↦ elim tried [
            | inl less ↦
                let t = f.covered i r n old (inl less) can in
                (t.0, Contains-append_left found ((p ++ m ∷ []) ∷ []) t.0 t.1, t.2, t.3)
            | inr h ↦ here i r n old h.0 h.1 can
          ]
          | inr last ↦ absurd (late i n tried (omega (arith, last.0, place-within-list found c p stands)))
        ];
        pending = λ q k n at_q can not_yet has. by_length.sideways q n k (above (Some m) k n has not_yet);
      }
        where
          late : (i : ℕ) (n : M) → IsTried space before sound c (UpTo (Some m)) i n → ¬ (c < i)
          late i n (inl h) g = omega (arith, h, g)
          late i n (inr h) g = omega (arith, h.0, g)

          here : (i : ℕ) (r : List M) (n : M) → slice_get found i ≡ Some r → i ≡ c → UpTo (Some m) n → space.allows (node r) n
              → (q : List M) × Contains (found ++ (p ++ m ∷ []) ∷ []) q × (node q ≡ space.after (node r) n) × (¬ before (r ++ n ∷ []) q)
          here i r n at_r e tried =
              subst (λ (x : List M). space.allows (node x) n → (q : List M) × Contains (found ++ (p ++ m ∷ []) ∷ []) q
              × (node q ≡ space.after (node x) n) × (¬ before (x ++ n ∷ []) q))
              (same-list i r e at_r) (leads_here n tried)

  -- ---- the picks are the places in order

  pub record Going (found : List (List M)) (picked : List ℕ) : Type 0 where
    pub next : ℕ
    pub upto : Option M
    pub picked_is : picked ≡ next ∷ down_from next
    pub known : Known found next (UpTo upto)
    pub list : List M
    pub stands : slice_get found next ≡ Some list

  abbrev pub InOrder : List (List M) → List ℕ → Type 0
  InOrder found picked = ((found ≡ [] ∷ []) × (picked ≡ [])) ⊎ Going found picked

  -- the place after the last one is the next
  next-place : (found : List (List M)) (c : ℕ) (upto : Option M) → Known found c (UpTo upto) → (place : ℕ)
      → (x : IsNext space (blind order) found (c ∷ down_from c) place) → place ≡ suc c
  next-place found c upto f place x = elim (order_of place (suc c)) [
    | inl low ↦ absurd (x.fresh (down_from-has (suc c) place low))
    | inr high ↦ elim (order_of (suc c) place) [
      | inl more ↦
          let here = at_index found (suc c) x.moves (omega (arith, more, place-within-list found place x.moves x.stands)) in
          let fewer =
          by_length.shorter _ x.moves (f.ascending (suc c) place _ x.moves more here x.stands) in
          elim (x.least (suc c) _ here (λ h. omega (arith, down_from-below (suc c) (suc c) h))) [
            | inl less ↦ absurd (omega (arith, less, fewer))
            | inr same ↦ absurd (omega (arith, same.1, more))
          ]
      | inr not_more ↦ omega (arith, high, not_more)
    ]
  ]

  first-place : (k : ℕ) (p : List M) → slice_get ([] ∷ []) k ≡ Some p → (k ≡ 0) × ([] ≡ p)
  first-place zero p e = (refl, some-one [] p e)
  first-place (suc k) p e = absurd (cc)

  order-step : (f g : List (List M)) (p q : List ℕ) → InOrder f p
      → Picks space (blind order) f p g q ⊎ Finds space (blind order) f p g q → InOrder g q
  order-step f g p q (inl first) (inl x) =
      let here = first-place x.place x.next.moves (ap (λ (l : List (List M)). slice_get l x.place) (sym first.0) ∙ x.next.stands) in
      inr (record {
        next = 0;
        upto = None;
        picked_is = x.picked_is ∙ ap (λ (k : ℕ). k ∷ p) here.0 ∙ ap (λ (l : List ℕ). 0 ∷ l) first.1;
        known = subst (λ (l : List (List M)). Known l 0 (UpTo None)) (sym first.0 ∙ sym x.found_is) begun;
        list = [];
        stands = ap (λ (l : List (List M)). slice_get l 0) (x.found_is ∙ first.0);
      })
  order-step f g p q (inl first) (inr x) = let e = sym first.1 ∙ x.last in absurd (cc)
  order-step f g p q (inr going) (inl x) =
      let next = subst (λ (l : List ℕ). IsNext space (blind order) f l x.place) going.picked_is x.next in
      let number = next-place f going.next going.upto going.known x.place next in
      let done : IsGoneOver space (blind order) f going.list =
      subst (λ (l : List ℕ). IsDone space (blind order) f l) going.picked_is x.done going.list going.stands in
      inr (record {
        next = suc going.next;
        upto = None;
        picked_is = x.picked_is ∙ ap (λ (k : ℕ). k ∷ p) number ∙ ap (λ (l : List ℕ). suc going.next ∷ l) going.picked_is;
        known = subst (λ (l : List (List M)). Known l (suc going.next) (UpTo None)) (sym x.found_is)
            (goes_next f going.next going.upto going.known going.list going.stands done);
        list = x.next.moves;
        stands = ap (λ (l : List (List M)). slice_get l (suc going.next)) x.found_is ∙ ap (λ (k : ℕ). slice_get f k) (sym number)
            ∙ x.next.stands;
      })
  order-step f g p q (inr going) (inr x) =
      let place : x.place ≡ going.next = head-of x.place going.next x.earlier (down_from going.next) (sym x.last ∙ going.picked_is) in
      let list : x.moves ≡ going.list =
      some-one x.moves going.list (sym x.stands ∙ ap (λ (k : ℕ). slice_get f k) place ∙ going.stands) in
      let new = subst (λ (l : List M). IsNew space (blind order) f l x.m) list x.is_new in
      inr (record {
        next = going.next;
        upto = Some x.m;
        picked_is = x.picked_is ∙ going.picked_is;
        known = subst (λ (l : List (List M)). Known l going.next (UpTo (Some x.m)))
            (ap (λ (l : List M). f ++ (l ++ x.m ∷ []) ∷ []) (sym list) ∙ sym x.found_is)
            (finds_next f going.next going.upto going.known going.list going.stands x.m new);
        list = going.list;
        stands = ap (λ (l : List (List M)). slice_get l going.next) x.found_is
            ∙ still_there f ((x.moves ++ x.m ∷ []) ∷ []) going.next going.list going.stands;
      })

  pub in_order : (n : ℕ) (found : List (List M)) (picked : List ℕ) → RunsFor space (blind order) n found picked → InOrder found picked
  in_order zero found picked r = inl r
  in_order (suc n) found picked r = order-step r.0 found r.1 picked (in_order n r.0 r.1 r.2) r.3

  -- the found lists are a beginning of the ascending list of all nodes
  pub begins-least : (found : List (List M)) → Begins space (blind order) found → IsBeginning space before space.start found
  begins-least found b = elim (in_order b.1.0 found b.0 b.1.1) [
    | inl first ↦ subst (λ (l : List (List M)). IsBeginning space before space.start l) (sym first.0)
        (frontier-beginning space before sound ([] ∷ []) 0 (UpTo None) (decided None) begun)
    | inr going ↦ frontier-beginning space before sound found going.next (UpTo going.upto) (decided going.upto) going.known
  ]

  all-picked : (found : List (List M)) (c : ℕ) → ((k : ℕ) (moves : List M) → slice_get found k ≡ Some moves → Contains (c ∷ down_from c) k)
      → length found ≤ suc c
  all-picked found c all = elim (order_of (suc c) (length found)) [
    | inl more ↦ elim (order_of 0 (length found)) [
      | inl some ↦ absurd (last found all more)
      | inr none ↦ omega (arith, none)
    ]
    | inr h ↦ h
  ]
    where
      last : (found : List (List M)) → ((k : ℕ) (moves : List M) → slice_get found k ≡ Some moves → Contains (c ∷ down_from c) k)
          → ¬ (suc c < length found)
      last found all more =
          let has = all (suc c) (slice_index_or found (suc c) []) (at_index found (suc c) [] more) in
          omega (arith, down_from-below (suc c) (suc c) has)

  -- where no place is left, they are the whole list
  pub over-whole : (found : List (List M)) (picked : List ℕ) → IsOver space (blind order) found picked
      → IsAll space before space.start found
  over-whole found picked over = elim (in_order over.comes.0 found picked over.comes.1) [
    | inl first ↦ absurd (never first.1 (over.all 0 [] (ap (λ (l : List (List M)). slice_get l 0) first.0)))
    | inr going ↦
        let done : IsGoneOver space (blind order) found going.list =
        subst (λ (l : List ℕ). IsDone space (blind order) found l) going.picked_is over.done going.list going.stands in
        frontier-all space before sound found (suc going.next) (UpTo None) (decided None)
        (goes_next found going.next going.upto going.known going.list going.stands done)
        (all-picked found going.next (subst (λ (l : List ℕ). (k : ℕ) (moves : List M) → slice_get found k ≡ Some moves → Contains l k)
        going.picked_is over.all))
  ]
    where
      never : picked ≡ [] → ¬ Contains picked 0
      never e h = let g = subst (λ (l : List ℕ). Contains l 0) e h in omega (arith, g.1)
