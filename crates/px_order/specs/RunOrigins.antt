-- The states in which a place was picked and in which a list was found, and from which found list another one goes on.
use Rattle.std.proofs.Common.{◌≡◌, ℕ, zero, suc, ◌<◌, ◌≤◌, ◌⊎◌, List, [], ◌∷◌, ◌++◌, length, refl, sym, ◌∙◌, ap, subst, inl, inr, arith, Some, slice_get, Contains}
use Rattle.px_base.specs.ListLaws.{Contains-cases, Contains-later}
use Rattle.px_order.specs.Spaces.{Space, Order}
use Rattle.px_order.specs.Runs.{Picks, Finds, RunsFor, Comes, Begins}
use Rattle.px_order.specs.Places.{place-within-list, push-cases, still_there, some-one, length-end, at_end, joined, none-behind}

module _ {N M : Type 0} (space : Space N M) (order : Order N M) where
  abbrev Runs : ℕ → List (List M) → List ℕ → Type 0
  Runs n found picked = RunsFor space order n found picked

  abbrev Pick : List (List M) → List ℕ → List (List M) → List ℕ → Type 0
  Pick f p g q = Picks space order f p g q

  abbrev Find : List (List M) → List ℕ → List (List M) → List ℕ → Type 0
  Find f p g q = Finds space order f p g q

  -- ---- the states in which a place was picked and in which a list was found

  pub record PickedAt (found : List (List M)) (k : ℕ) : Type 0 where
    pub lists : List (List M)
    pub earlier : List ℕ
    pub before : Comes space order lists earlier
    pub comes : Comes space order lists (k ∷ earlier)
    pub fresh : ¬ Contains earlier k
    pub rest : List (List M)
    pub found_is : found ≡ lists ++ rest

  picked-step : (n : ℕ) (f g : List (List M)) (p q : List ℕ) → ((k : ℕ) → Contains p k → PickedAt f k) → Runs n f p → Runs (suc n) g q
      → Pick f p g q ⊎ Find f p g q → (k : ℕ) → Contains q k → PickedAt g k
  picked-step n f g p q old was r (inl x) k has = elim (Contains-cases x.place p k (subst (λ (l : List ℕ). Contains l k) x.picked_is has)) [
    | inl e ↦ record {
      lists = g;
      earlier = p;
      before = (n, subst (λ (l : List (List M)). Runs n l p) (sym x.found_is) was);
      comes = (suc n, subst (λ (l : List ℕ). Runs (suc n) g l) (x.picked_is ∙ ap (λ (j : ℕ). j ∷ p) e) r);
      fresh = subst (λ (j : ℕ). ¬ Contains p j) e x.next.fresh;
      rest = [];
      found_is = none-behind g;
    }
    | inr before ↦ subst (λ (l : List (List M)). PickedAt l k) (sym x.found_is) (old k before)
  ]
  picked-step n f g p q old was r (inr x) k has =
      let s = old k (subst (λ (l : List ℕ). Contains l k) x.picked_is has) in
      record {
        lists = s.lists;
        earlier = s.earlier;
        before = s.before;
        comes = s.comes;
        fresh = s.fresh;
        rest = s.rest ++ (x.moves ++ x.m ∷ []) ∷ [];
        found_is = x.found_is ∙ ap (λ (l : List (List M)). l ++ (x.moves ++ x.m ∷ []) ∷ []) s.found_is
            ∙ joined s.lists s.rest ((x.moves ++ x.m ∷ []) ∷ []);
      }

  pub picked-at : (n : ℕ) (found : List (List M)) (picked : List ℕ) → Runs n found picked → (k : ℕ) → Contains picked k → PickedAt found k
  picked-at zero found picked r k has = let h = subst (λ (l : List ℕ). Contains l k) r.1 has in absurd (omega (arith, h.1))
  picked-at (suc n) found picked r k has = picked-step n r.0 found r.1 picked (picked-at n r.0 r.1 r.2) r.2 r r.3 k has

  pub record FoundAt (found : List (List M)) (k : ℕ) : Type 0 where
    pub earlier : List (List M)
    pub moves : List M
    pub begins : Begins space order (earlier ++ moves ∷ [])
    pub rest : List (List M)
    pub found_is : found ≡ (earlier ++ moves ∷ []) ++ rest
    pub stands : slice_get found k ≡ Some moves
    pub number : length earlier ≡ k

  found-step : (n : ℕ) (f g : List (List M)) (p q : List ℕ) → ((k : ℕ) → k < length f → FoundAt f k) → Runs (suc n) g q
      → Pick f p g q ⊎ Find f p g q → (k : ℕ) → k < length g → FoundAt g k
  found-step n f g p q old r (inl x) k below = subst (λ (l : List (List M)). FoundAt l k) (sym x.found_is)
      (old k (subst (λ (l : List (List M)). k < length l) x.found_is below))
  found-step n f g p q old r (inr x) k below = elim (lower-or-last k (length f) (subst (λ (j : ℕ). k < j) (ap length x.found_is
      ∙ length-end f (x.moves ++ x.m ∷ [])) below)) [
        | inl low ↦
            let s = old k low in
            record {
              earlier = s.earlier;
              moves = s.moves;
              begins = s.begins;
              rest = s.rest ++ (x.moves ++ x.m ∷ []) ∷ [];
              found_is = x.found_is ∙ ap (λ (l : List (List M)). l ++ (x.moves ++ x.m ∷ []) ∷ []) s.found_is
                  ∙ joined (s.earlier ++ s.moves ∷ []) s.rest ((x.moves ++ x.m ∷ []) ∷ []);
              stands = ap (λ (l : List (List M)). slice_get l k) x.found_is ∙ still_there f ((x.moves ++ x.m ∷ []) ∷ []) k s.moves s.stands;
              number = s.number;
            }
        | inr last ↦ record {
          earlier = f;
          moves = x.moves ++ x.m ∷ [];
          begins = (q, (suc n, subst (λ (l : List (List M)). Runs (suc n) l q) x.found_is r));
          rest = [];
          found_is = x.found_is ∙ none-behind (f ++ (x.moves ++ x.m ∷ []) ∷ []);
          stands = ap (λ (l : List (List M)). slice_get l k) x.found_is
              ∙ ap (λ (j : ℕ). slice_get (f ++ (x.moves ++ x.m ∷ []) ∷ []) j) last ∙ at_end f (x.moves ++ x.m ∷ []);
          number = sym last;
        }
      ]
    where
      lower-or-last : (k n : ℕ) → k < suc n → (k < n) ⊎ (k ≡ n)
      lower-or-last k n h = grind (arith, h)

  pub found-at : (n : ℕ) (found : List (List M)) (picked : List ℕ) → Runs n found picked → (k : ℕ) → k < length found → FoundAt found k
  found-at zero found picked r k below = subst (λ (l : List (List M)). FoundAt l k) (sym r.0)
      (subst (FoundAt ([] ∷ [])) (zero-one k (subst (λ (l : List (List M)). k < length l) r.0 below)) first)
    where
      zero-one : (k : ℕ) → k < 1 → 0 ≡ k
      zero-one k h = omega (arith, h)

      first : FoundAt ([] ∷ []) 0
      first =
          record { earlier = []; moves = []; begins = ([], (0, (refl, refl))); rest = []; found_is = refl; stands = refl; number = refl }
  found-at (suc n) found picked r k below = found-step n r.0 found r.1 picked (found-at n r.0 r.1 r.2) r r.3 k below

  -- ---- where a found list comes from

  pub record From (found : List (List M)) (picked : List ℕ) (k : ℕ) (moves : List M) : Type 0 where
    pub place : ℕ
    pub parent : List M
    pub m : M
    pub moves_are : moves ≡ parent ++ m ∷ []
    pub stands : slice_get found place ≡ Some parent
    pub is_picked : Contains picked place
    pub earlier : place < k

  abbrev Origins : List (List M) → List ℕ → Type 0
  Origins found picked = (k : ℕ) (moves : List M) → slice_get found k ≡ Some moves → ((k ≡ 0) × ([] ≡ moves)) ⊎ From found picked k moves

  from-picked : (f : List (List M)) (p : List ℕ) (k : ℕ) (moves : List M) (place : ℕ) → From f p k moves → From f (place ∷ p) k moves
  from-picked f p k moves place h = record {
    place = h.place;
    parent = h.parent;
    m = h.m;
    moves_are = h.moves_are;
    stands = h.stands;
    is_picked = Contains-later place p h.place h.is_picked;
    earlier = h.earlier;
  }

  from-more : (f : List (List M)) (p : List ℕ) (k : ℕ) (moves : List M) (l : List M) → From f p k moves → From (f ++ l ∷ []) p k moves
  from-more f p k moves l h = record {
    place = h.place;
    parent = h.parent;
    m = h.m;
    moves_are = h.moves_are;
    stands = still_there f (l ∷ []) h.place h.parent h.stands;
    is_picked = h.is_picked;
    earlier = h.earlier;
  }

  origins-step : (f g : List (List M)) (p q : List ℕ) → Origins f p → Pick f p g q ⊎ Find f p g q → Origins g q
  origins-step f g p q old (inl x) =
      subst (λ (l : List (List M)). Origins l q) (sym x.found_is)
      (subst (λ (l : List ℕ). Origins f l) (sym x.picked_is) (λ k moves at_k. elim (old k moves at_k) [
        | inl first ↦ inl first
        | inr h ↦ inr (from-picked f p k moves x.place h)
      ]))
  origins-step f g p q old (inr x) =
      subst (λ (l : List (List M)). Origins l q) (sym x.found_is)
      (subst (λ (l : List ℕ). Origins (f ++ (x.moves ++ x.m ∷ []) ∷ []) l) (sym x.picked_is)
      (λ k moves at_k. elim (push-cases f (x.moves ++ x.m ∷ []) moves k at_k) [
        | inl before ↦ elim (old k moves before) [
          | inl first ↦ inl first
          | inr h ↦ inr (from-more f p k moves (x.moves ++ x.m ∷ []) h)
        ]
        | inr last ↦ inr (record {
          place = x.place;
          parent = x.moves;
          m = x.m;
          moves_are = sym last.1;
          stands = still_there f ((x.moves ++ x.m ∷ []) ∷ []) x.place x.moves x.stands;
          is_picked = subst (λ (l : List ℕ). Contains l x.place) (sym x.last) (0, omega arith, refl);
          earlier = omega (arith, last.0, place-within-list f x.place x.moves x.stands);
        })
      ]))

  pub origins : (n : ℕ) (found : List (List M)) (picked : List ℕ) → Runs n found picked → Origins found picked
  origins zero found picked r = subst (λ (l : List (List M)). Origins l picked) (sym r.0) first
    where
      first : Origins ([] ∷ []) picked
      first zero moves at_k = inl (refl, some-one [] moves at_k)
      first (suc k) moves at_k = absurd (cc)
  origins (suc n) found picked r = origins-step r.0 found r.1 picked (origins n r.0 r.1 r.2) r.3

  -- a found list has no more moves than its place
  short : (bound k : ℕ) (found : List (List M)) (picked : List ℕ) → Origins found picked → k < bound → (moves : List M)
      → slice_get found k ≡ Some moves → length moves ≤ k
  short zero k found picked old below moves at_k = absurd (omega (arith, below))
  short (suc bound) k found picked old below moves at_k = elim (old k moves at_k) [
    | inl first ↦ omega (arith, ap length first.1)
    | inr h ↦
        let prefix = short bound h.place found picked old (omega (arith, below, h.earlier)) h.parent h.stands in
        omega (arith, prefix, h.earlier, ap length h.moves_are, length-end h.parent h.m)
  ]

  pub few-moves : (n : ℕ) (found : List (List M)) (picked : List ℕ) → Runs n found picked → (k : ℕ) (moves : List M)
      → slice_get found k ≡ Some moves → length moves ≤ k
  few-moves n found picked r k moves at_k = short (suc k) k found picked (origins n found picked r) (omega arith) moves at_k
