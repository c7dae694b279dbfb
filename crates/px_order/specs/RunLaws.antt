-- What is true of the found lists, whatever their values: a run is determined, each node stands once, and all is found in the end.
use Rattle.std.proofs.Common.{◌≡◌, ℕ, zero, suc, ◌<◌, ◌≤◌, ◌⊎◌, List, [], ◌∷◌, ◌++◌, length, refl, sym, ◌∙◌, ap, subst, inl, inr, arith, Some, slice_get, Contains}
use Rattle.std.proofs.lemmas.List.Elements.{Contains-append_left, Contains-push_cases}
use Rattle.px_base.specs.ListLaws.{Contains-cases, Contains-later}
use Rattle.px_order.specs.Spaces.{Space, Order, IsLower, CanMake, reached, at}
use Rattle.px_order.specs.Runs.{Reaches, IsGoneOver, IsDone, IsNext, IsNew, Picks, Finds, RunsFor, Begins, IsOver}
use Rattle.px_order.specs.Places.{place_of, contains_place, place-within-list, push-cases, still_there, some-one, head-of, tail-of, length-end, joined, none-behind}

module _ {N M : Type 0} (space : Space N M) (order : Order N M) where
  abbrev node : List M → N
  node moves = at space moves

  abbrev Reached : List (List M) → N → Type 0
  Reached found n = Reaches space order found n

  abbrev Runs : ℕ → List (List M) → List ℕ → Type 0
  Runs n found picked = RunsFor space order n found picked

  abbrev Done : List (List M) → List ℕ → Type 0
  Done found picked = IsDone space order found picked

  abbrev Next : List (List M) → List ℕ → ℕ → Type 0
  Next found picked place = IsNext space order found picked place

  abbrev New : List (List M) → List M → M → Type 0
  New found moves m = IsNew space order found moves m

  abbrev Pick : List (List M) → List ℕ → List (List M) → List ℕ → Type 0
  Pick f p g q = Picks space order f p g q

  abbrev Find : List (List M) → List ℕ → List (List M) → List ℕ → Type 0
  Find f p g q = Finds space order f p g q

  reached-more : (found : List (List M)) (l : List M) (n : N) → Reached found n → Reached (found ++ l ∷ []) n
  reached-more found l n r = (r.0, Contains-append_left found (l ∷ []) r.0 r.1, r.2)

  -- ---- one step

  next-one : (f : List (List M)) (p : List ℕ) (a b : ℕ) → Next f p a → Next f p b → a ≡ b
  next-one f p a b x y = both (x.least b y.moves y.stands y.fresh) (y.least a x.moves x.stands x.fresh)
    where
      both : {u v : ℕ} → (u < v) ⊎ ((u ≡ v) × (a ≤ b)) → (v < u) ⊎ ((v ≡ u) × (b ≤ a)) → a ≡ b
      both (inl h) (inl g) = absurd (omega (arith, h, g))
      both (inl h) (inr g) = absurd (omega (arith, h, g.0))
      both (inr h) (inl g) = absurd (omega (arith, h.0, g))
      both (inr h) (inr g) = omega (arith, h.1, g.1)

  module _ (total : (m n : M) → IsLower order m n ⊎ ((m ≡ n) ⊎ IsLower order n m)) where
    new-one : (f : List (List M)) (moves : List M) (m n : M) → New f moves m → New f moves n → m ≡ n
    new-one f moves m n x y = elim (total m n) [
      | inl less ↦ absurd (x.new (y.first m x.allowed less))
      | inr (inl e) ↦ e
      | inr (inr more) ↦ absurd (y.new (x.first n y.allowed more))
    ]

    -- a node that is gone through has no new move
    not_both : (f : List (List M)) (p : List ℕ) (g h : List (List M)) (q r : List ℕ) → Pick f p g q → ¬ Find f p h r
    not_both f p g h q r x y =
        y.is_new.new ((subst (Done f) y.last x.done) y.moves y.stands y.m y.is_new.allowed)

    step-one : (f : List (List M)) (p : List ℕ) (g h : List (List M)) (q r : List ℕ) → Pick f p g q ⊎ Find f p g q
        → Pick f p h r ⊎ Find f p h r → (g ≡ h) × (q ≡ r)
    step-one f p g h q r (inl x) (inl y) =
        (x.found_is ∙ sym y.found_is, x.picked_is ∙ ap (λ (k : ℕ). k ∷ p) (next-one f p x.place y.place x.next y.next) ∙ sym y.picked_is)
    step-one f p g h q r (inl x) (inr y) = absurd (not_both f p g h q r x y)
    step-one f p g h q r (inr x) (inl y) = absurd (not_both f p h g r q y x)
    step-one f p g h q r (inr x) (inr y) =
        let place : x.place ≡ y.place = head-of x.place y.place x.earlier y.earlier (sym x.last ∙ y.last) in
        let moves : x.moves ≡ y.moves =
        some-one x.moves y.moves (sym x.stands ∙ ap (λ (k : ℕ). slice_get f k) place ∙ y.stands) in
        let m : x.m ≡ y.m =
        new-one f y.moves x.m y.m (subst (λ (l : List M). New f l x.m) moves x.is_new) y.is_new in (
          x.found_is ∙ ap (λ (l : List M). f ++ (l ++ x.m ∷ []) ∷ []) moves ∙ ap (λ (k : M). f ++ (y.moves ++ k ∷ []) ∷ []) m
              ∙ sym y.found_is,
          x.picked_is ∙ sym y.picked_is,
        )

    -- so many steps lead to one state
    pub runs-one : (n : ℕ) (g h : List (List M)) (q r : List ℕ) → Runs n g q → Runs n h r → (g ≡ h) × (q ≡ r)
    runs-one zero g h q r x y = (x.0 ∙ sym y.0, x.1 ∙ sym y.1)
    runs-one (suc n) g h q r x y =
        let same = runs-one n x.0 y.0 x.1 y.1 x.2 y.2 in
        step-one y.0 y.1 g h q r
        (subst (λ (p : List ℕ). Pick y.0 p g q ⊎ Find y.0 p g q) same.1
        (subst (λ (f : List (List M)). Pick f x.1 g q ⊎ Find f x.1 g q) same.0 x.3))
        y.3

  -- ---- runs go on from each other

  -- a state so many steps before, of whose lists these are more
  abbrev Before : ℕ → List (List M) → Type 0
  Before m g = (f : List (List M)) × (p : List ℕ) × (rest : List (List M)) × Runs m f p × (g ≡ f ++ rest)

  before-step : (m : ℕ) (f g : List (List M)) (p q : List ℕ) → Before m f → Pick f p g q ⊎ Find f p g q → Before m g
  before-step m f g p q b (inl x) = (b.0, b.1, b.2, b.3, x.found_is ∙ b.4)
  before-step m f g p q b (inr x) = (
    b.0,
    b.1,
    b.2 ++ (x.moves ++ x.m ∷ []) ∷ [],
    b.3,
    x.found_is ∙ ap (λ (l : List (List M)). l ++ (x.moves ++ x.m ∷ []) ∷ []) b.4 ∙ joined b.0 b.2 ((x.moves ++ x.m ∷ []) ∷ []),
  )

  pub earlier-state : (n m : ℕ) (g : List (List M)) (q : List ℕ) → Runs n g q → m ≤ n → Before m g
  earlier-state zero m g q r h =
      let number : 0 ≡ m = omega (arith, h) in (g, q, [], subst (λ (k : ℕ). Runs k g q) number r, none-behind g)
  earlier-state (suc n) m g q r h = elim (less-or-same m n h) [
    | inl below ↦ before-step m r.0 g r.1 q (earlier-state n m r.0 r.1 r.2 below) r.3
    | inr number ↦ (g, q, [], subst (λ (k : ℕ). Runs k g q) (sym number) r, none-behind g)
  ]
    where
      less-or-same : (m n : ℕ) → m ≤ suc n → (m ≤ n) ⊎ (m ≡ suc n)
      less-or-same m n h = grind (arith, h)

  module _ (total : (m n : M) → IsLower order m n ⊎ ((m ≡ n) ⊎ IsLower order n m)) where
    -- of two lists of found lists one begins with the other
    pub prefixes : (n m : ℕ) (xs ys : List (List M)) (p q : List ℕ) → n ≤ m → Runs n xs p → Runs m ys q
        → (rest : List (List M)) × (ys ≡ xs ++ rest)
    prefixes n m xs ys p q h r s =
        let b = earlier-state m n ys q s h in
        let same = runs-one total n xs b.0 p b.1 r b.3 in
        (b.2, b.4 ∙ ap (λ (l : List (List M)). l ++ b.2) (sym same.0))

    pub agree : (xs ys : List (List M)) → Begins space order xs → Begins space order ys
        → (k : ℕ) (p q : List M) → slice_get xs k ≡ Some p → slice_get ys k ≡ Some q → p ≡ q
    agree xs ys x y k p q at_x at_y = elim (order-of x.1.0 y.1.0) [
      | inl h ↦
          let r = prefixes x.1.0 y.1.0 xs ys x.0 y.0 h x.1.1 y.1.1 in
          some-one p q (sym (still_there xs r.0 k p at_x) ∙ ap (λ (l : List (List M)). slice_get l k) (sym r.1) ∙ at_y)
      | inr h ↦
          let r = prefixes y.1.0 x.1.0 ys xs y.0 x.0 h y.1.1 x.1.1 in
          some-one p q (sym at_x ∙ ap (λ (l : List (List M)). slice_get l k) r.1 ∙ still_there ys r.0 k q at_y)
    ]
      where
        order-of : (a b : ℕ) → (a ≤ b) ⊎ (b ≤ a)
        order-of a b = grind arith

  -- ---- each node once

  abbrev pub Once : List (List M) → Type 0
  Once found = (i j : ℕ) (p q : List M) → slice_get found i ≡ Some p → slice_get found j ≡ Some q → node p ≡ node q → i ≡ j

  pub node-push : (from : N) (ms : List M) (m : M) → reached space from (ms ++ m ∷ []) ≡ space.after (reached space from ms) m
  node-push from [] m = refl
  node-push from (k ∷ ms) m = node-push (space.after from k) ms m

  once-step : (f g : List (List M)) (p q : List ℕ) → Once f → Pick f p g q ⊎ Find f p g q → Once g
  once-step f g p q once (inl x) = subst Once (sym x.found_is) once
  once-step f g p q once (inr x) = subst Once (sym x.found_is) more
    where
      more : Once (f ++ (x.moves ++ x.m ∷ []) ∷ [])
      more i j a b at_i at_j e = elim (push-cases f (x.moves ++ x.m ∷ []) a i at_i) [
        | inl old_i ↦ elim (push-cases f (x.moves ++ x.m ∷ []) b j at_j) [
          | inl old_j ↦ once i j a b old_i old_j e
          | inr new_j ↦ absurd (x.is_new.new (
            a,
            contains_place f i a old_i,
            e ∙ sym (ap node new_j.1) ∙ node-push space.start x.moves x.m,
          ))
        ]
        | inr new_i ↦ elim (push-cases f (x.moves ++ x.m ∷ []) b j at_j) [
          | inl old_j ↦ absurd (x.is_new.new (
            b,
            contains_place f j b old_j,
            sym e ∙ sym (ap node new_i.1) ∙ node-push space.start x.moves x.m,
          ))
          | inr new_j ↦ new_i.0 ∙ sym new_j.0
        ]
      ]

  pub once : (n : ℕ) (found : List (List M)) (picked : List ℕ) → Runs n found picked → Once found
  once zero found picked r = subst Once (sym r.0) first
    where
      only : (k : ℕ) (p : List M) → slice_get ([] ∷ []) k ≡ Some p → k ≡ 0
      only zero p e = refl
      only (suc k) p e = absurd (cc)

      first : Once ([] ∷ [])
      first i j p q at_i at_j e = only i p at_i ∙ sym (only j q at_j)
  once (suc n) found picked r = once-step r.0 found r.1 picked (once n r.0 r.1 r.2) r.3

  -- ---- all nodes

  abbrev root-of : List (List M) → Type 0
  root-of found = slice_get found 0 ≡ Some []

  root-step : (f g : List (List M)) (p q : List ℕ) → root-of f → Pick f p g q ⊎ Find f p g q → root-of g
  root-step f g p q r (inl x) = subst root-of (sym x.found_is) r
  root-step f g p q r (inr x) = subst root-of (sym x.found_is) (still_there f ((x.moves ++ x.m ∷ []) ∷ []) 0 [] r)

  pub root : (n : ℕ) (found : List (List M)) (picked : List ℕ) → Runs n found picked → root-of found
  root zero found picked r = ap (λ (l : List (List M)). slice_get l 0) r.0
  root (suc n) found picked r = root-step r.0 found r.1 picked (root n r.0 r.1 r.2) r.3

  -- the moves of each found list can be made
  abbrev Made : List (List M) → Type 0
  Made found = (moves : List M) → Contains found moves → CanMake space space.start moves

  pub made-push : (from : N) (ms : List M) (m : M) → CanMake space from ms → space.allows (reached space from ms) m
      → CanMake space from (ms ++ m ∷ [])
  made-push from [] m h g = (g, tt)
  made-push from (k ∷ ms) m h g = (h.0, made-push (space.after from k) ms m h.1 g)

  made-step : (f g : List (List M)) (p q : List ℕ) → Made f → Pick f p g q ⊎ Find f p g q → Made g
  made-step f g p q made (inl x) = subst Made (sym x.found_is) made
  made-step f g p q made (inr x) = subst Made (sym x.found_is) (λ moves has. elim (Contains-push_cases f (x.moves ++ x.m ∷ []) moves has) [
    | inl old ↦ made moves old
    | inr e ↦ subst (λ (l : List M). CanMake space space.start l) e
        (made-push space.start x.moves x.m (made x.moves (contains_place f x.place x.moves x.stands)) x.is_new.allowed)
  ])

  pub made : (n : ℕ) (found : List (List M)) (picked : List ℕ) → Runs n found picked → Made found
  made zero found picked r = subst Made (sym r.0) (λ moves has. subst (λ (l : List M). CanMake space space.start l) (only moves has) tt)
    where
      only : (moves : List M) → Contains ([] ∷ []) moves → [] ≡ moves
      only moves (zero, h, e) = e
      only moves (suc k, h, e) = absurd (omega arith)
  made (suc n) found picked r = made-step r.0 found r.1 picked (made n r.0 r.1 r.2) r.3

  -- the nodes of all picked places but the last one were gone through, and the places are those of found lists
  pub record Behind (found : List (List M)) (picked : List ℕ) : Type 0 where
    pub within : (k : ℕ) → Contains picked k → k < length found
    pub gone : (place : ℕ) (earlier : List ℕ) (k : ℕ) (moves : List M) → picked ≡ place ∷ earlier → Contains earlier k
        → slice_get found k ≡ Some moves → IsGoneOver space order found moves

  behind-none : Behind ([] ∷ []) []
  behind-none = record {
    within = λ k h. absurd (omega (arith, h.1));
    gone = λ place earlier k moves e has at_k. absurd (cc);
  }

  behind-pick : (f : List (List M)) (p : List ℕ) → Behind f p → Done f p → (place : ℕ) → place < length f → Behind f (place ∷ p)
  behind-pick f p b done place below = record {
    within = λ k h. elim (Contains-cases place p k h) [ inl e ↦ omega (arith, e, below) | inr old ↦ b.within k old ];
    gone = λ q earlier k moves e has at_k. all p b done k moves
        (subst (λ (l : List ℕ). Contains l k) (sym (tail-of place q p earlier e)) has) at_k;
  }
    where
      all : (p : List ℕ) → Behind f p → Done f p → (k : ℕ) (moves : List M) → Contains p k → slice_get f k ≡ Some moves
          → IsGoneOver space order f moves
      all [] b done k moves has at_k = absurd (omega (arith, has.1))
      all (a ∷ p) b done k moves has at_k = elim (Contains-cases a p k has) [
        | inl e ↦ done moves (ap (λ (j : ℕ). slice_get f j) e ∙ at_k)
        | inr old ↦ b.gone a p k moves refl old at_k
      ]

  behind-find : (f : List (List M)) (p : List ℕ) → Behind f p → (l : List M) → Behind (f ++ l ∷ []) p
  behind-find f p b l = record {
    within = λ k h. omega (arith, b.within k h, length-end f l);
    gone = λ place earlier k moves e has at_k. elim (push-cases f l moves k at_k) [
      | inl old ↦ λ m can. reached-more f l (space.after (node moves) m) (b.gone place earlier k moves e has old m can)
      | inr new ↦ absurd (omega (
        arith,
        new.0,
        b.within k (subst (λ (x : List ℕ). Contains x k) (sym e) (Contains-later place earlier k has)),
      ))
    ];
  }

  behind-step : (f g : List (List M)) (p q : List ℕ) → Behind f p → Pick f p g q ⊎ Find f p g q → Behind g q
  behind-step f g p q b (inl x) =
      subst (λ (l : List (List M)). Behind l q) (sym x.found_is)
      (subst (λ (l : List ℕ). Behind f l) (sym x.picked_is)
      (behind-pick f p b x.done x.place (place-within-list f x.place x.next.moves x.next.stands)))
  behind-step f g p q b (inr x) =
      subst (λ (l : List (List M)). Behind l q) (sym x.found_is)
      (subst (λ (l : List ℕ). Behind (f ++ (x.moves ++ x.m ∷ []) ∷ []) l) (sym x.picked_is) (behind-find f p b (x.moves ++ x.m ∷ [])))

  pub behind : (n : ℕ) (found : List (List M)) (picked : List ℕ) → Runs n found picked → Behind found picked
  behind zero found picked r = subst (λ (l : List (List M)). Behind l picked) (sym r.0)
      (subst (λ (l : List ℕ). Behind ([] ∷ []) l) (sym r.1) behind-none)
  behind (suc n) found picked r = behind-step r.0 found r.1 picked (behind n r.0 r.1 r.2) r.3

  gone-all : (found : List (List M)) (picked : List ℕ) → Behind found picked → Done found picked → (k : ℕ) (moves : List M)
      → Contains picked k → slice_get found k ≡ Some moves → IsGoneOver space order found moves
  gone-all found [] b done k moves has at_k = absurd (omega (arith, has.1))
  gone-all found (a ∷ p) b done k moves has at_k = elim (Contains-cases a p k has) [
    | inl e ↦ done moves (ap (λ (j : ℕ). slice_get found j) e ∙ at_k)
    | inr old ↦ b.gone a p k moves refl old at_k
  ]

  -- where no place is left, each node that moves reach is among those of the lists
  module _ (found : List (List M)) (picked : List ℕ) (over : IsOver space order found picked) where
    goes_on : (rest : List M) (from : N) → Reached found from → CanMake space from rest → Reached found (reached space from rest)
    goes_on [] from r can = r
    goes_on (m ∷ rest) from r can =
        let place = place_of found r.0 r.1 in
        let here =
        gone-all found picked (behind over.comes.0 found picked over.comes.1) over.done place.0 r.0 (over.all place.0 r.0 place.1) place.1 m
        (subst (λ (x : N). space.allows x m) (sym r.2) can.0) in
        goes_on rest (space.after from m) (here.0, here.1, here.2 ∙ ap (λ (x : N). space.after x m) r.2) can.1

    pub over-reaches : (moves : List M) → CanMake space space.start moves → Reached found (node moves)
    over-reaches moves can =
        goes_on moves space.start ([], contains_place found 0 [] (root over.comes.0 found picked over.comes.1), refl) can
