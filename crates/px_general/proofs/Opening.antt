-- Each derivation of a form is the opened derivation under its own terms.
use Rattle.std.specs.Prelude.{◌≡◌, ◌⊎◌, ◌+◌, ◌<◌, ◌==◌, true, false, ℕ, Some, List, [], ◌∷◌, ◌++◌, map, length, slice_get, slice_index_or, All}
use Rattle.std.proofs.Common.{zero, suc, refl, sym, ap, ◌∙◌, subst, inl, inr, arith, length-append}
use Rattle.std.proofs.lemmas.Bool.Decides.{nat_tests}
use Rattle.px_terms.specs.declared.atom.Atom.{Atom}
use Rattle.px_terms.specs.declared.term.Term.{Term}
use Rattle.px_terms.specs.declared.term.Term.TheVariants.{Any as WildCard}
use Rattle.px_terms.specs.Language.{substitute}
use Rattle.px_terms.specs.Substitution.{substitute_atom, variables_from}
use Rattle.px_proof.specs.declared.proof.Leaf.{Leaf}
use Rattle.px_proof.specs.Derivation.{Derivation, Derivations, fact, ancestor, step, gap, open_place, none, also, leaves_of, all_leaves_of}
use Rattle.px_proof.specs.PlaceLaws.{All-prefix, All-back}
use Rattle.px_proof.specs.Substitution.{derivation_under, derivations_under}
use Rattle.px_replay.specs.FreshVariables.{fresh_in, all_fresh_in}
use Rattle.px_replay.specs.Replay.{opened_atom, opened, all_opened, own_terms, all_own_terms}
use Rattle.px_general.proofs.Matching.{Matches, AllMatch}

-- from the number on, the list has these terms
abbrev pub HasFrom : List Term → ℕ → List Term → Type 0
HasFrom terms first ts = (k : ℕ) (t : Term) → slice_get ts k ≡ Some t → slice_get terms (first + k) ≡ Some t

pub HasFrom-prefix : (terms : List Term) (first : ℕ) (xs ys : List Term) → HasFrom terms first (xs ++ ys) → HasFrom terms first xs
HasFrom-prefix terms first xs ys h k t e = h k t (there xs ys k t e)
  where
    there : (xs ys : List Term) (k : ℕ) (t : Term) → slice_get xs k ≡ Some t → slice_get (xs ++ ys) k ≡ Some t
    there [] ys k t e = absurd (cc)
    there (x ∷ xs) ys zero t e = e
    there (x ∷ xs) ys (suc k) t e = there xs ys k t e

pub HasFrom-back : (terms : List Term) (first second : ℕ) (xs ys : List Term) → second ≡ first + length xs → HasFrom terms first (xs ++ ys)
    → HasFrom terms second ys
HasFrom-back terms first second xs ys e h k t at =
    let number : first + (length xs + k) ≡ second + k = omega arith in
    subst (λ (n : ℕ). slice_get terms n ≡ Some t) number (h (length xs + k) t (there xs ys k (length xs + k) t refl at))
  where
    there : (xs ys : List Term) (k j : ℕ) (t : Term) → j ≡ length xs + k → slice_get ys k ≡ Some t → slice_get (xs ++ ys) j ≡ Some t
    there [] ys k j t e at = subst (λ (n : ℕ). slice_get ys n ≡ Some t) (omega arith) at
    there (x ∷ xs) ys k zero t e at = absurd (omega arith)
    there (x ∷ xs) ys k (suc j) t e at = there xs ys k j t (omega arith) at

pub read-at : (xs : List Term) (k : ℕ) (x : Term) → slice_get xs k ≡ Some x → slice_index_or xs k WildCard ≡ x
read-at [] k x e = absurd (cc)
read-at (y ∷ xs) zero x e = cc
read-at (y ∷ xs) (suc k) x e = read-at xs k x e

pub variables-are : (terms : List Term) (first : ℕ) (ts : List Term) → HasFrom terms first ts
    → map (substitute terms) (variables_from first (length ts)) ≡ ts
variables-are terms first [] h = refl
variables-are terms first (t ∷ ts) h =
    let here : slice_index_or terms first WildCard ≡ t =
    read-at terms first t (subst (λ (n : ℕ). slice_get terms n ≡ Some t) (omega arith) (h 0 t refl)) in
    let rest = variables-are terms (suc first) ts (λ k u e. subst (λ (n : ℕ). slice_get terms n ≡ Some u) (omega arith) (h (suc k) u e)) in
    cc (here, rest)

pub zero_test : (n : ℕ) → ((n ≡ 0) × (n == 0 ≡ true)) ⊎ ((0 < n) × (n == 0 ≡ false))
zero_test zero = inl (refl, refl)
zero_test (suc n) = inr (omega arith, never n)
  where
    never : (n : ℕ) → suc n == 0 ≡ false
    never n = grind (arith, nat_tests)

mutual
  pub fresh-own : (q u : Derivation) → Matches q u → fresh_in q ≡ length (own_terms u)
  fresh-own (fact l) (fact m) h = elim (zero_test l.column) [
    | inl z ↦
        let b : m.column == 0 ≡ true = ap (λ (n : ℕ). n == 0) (sym h.0) ∙ z.1 in
        rw z.1 (rw b h.3)
    | inr z ↦
        let b : m.column == 0 ≡ false = ap (λ (n : ℕ). n == 0) (sym h.0) ∙ z.1 in
        rw z.1 (rw b refl)
  ]
  fresh-own (ancestor i) (ancestor j) h = refl
  fresh-own (step c theta place parts) (step d tau spot others) h =
      let r = all_fresh-own parts others h.3 in omega (arith, length-append tau (all_own_terms others), r, h.2)
  fresh-own (fact l) (ancestor j) h = absurd h
  fresh-own (fact l) (step d tau spot others) h = absurd h
  fresh-own (fact l) (gap a) h = absurd h
  fresh-own (fact l) open_place h = absurd h
  fresh-own (ancestor i) (fact m) h = absurd h
  fresh-own (ancestor i) (step d tau spot others) h = absurd h
  fresh-own (ancestor i) (gap a) h = absurd h
  fresh-own (ancestor i) open_place h = absurd h
  fresh-own (step c theta place parts) (fact m) h = absurd h
  fresh-own (step c theta place parts) (ancestor j) h = absurd h
  fresh-own (step c theta place parts) (gap a) h = absurd h
  fresh-own (step c theta place parts) open_place h = absurd h
  fresh-own (gap a) u h = absurd h
  fresh-own open_place u h = absurd h

  all_fresh-own : (qs us : Derivations) → AllMatch qs us → all_fresh_in qs ≡ length (all_own_terms us)
  all_fresh-own none none h = refl
  all_fresh-own (also q qs) (also u us) h =
      let r = fresh-own q u h.0 in let s = all_fresh-own qs us h.1 in omega (arith, length-append (own_terms u) (all_own_terms us), r, s)
  all_fresh-own none (also u us) h = absurd h
  all_fresh-own (also q qs) none h = absurd h

module _ (named : ℕ → ℕ → Atom) (terms : List Term) where
  -- the atom of a leaf after the initial model is the add that it names, under the terms
  abbrev pub IsNamedAdd : Leaf → Type 0
  IsNamedAdd leaf = 0 < leaf.column → leaf.atom ≡ substitute_atom terms (named leaf.column leaf.index)

  same_leaf : (l m : Leaf) → l.column ≡ m.column → l.index ≡ m.index → l.atom ≡ m.atom → l ≡ m
  same_leaf l m e f g = λ i. record { column = e i; index = f i; atom = g i }

  opened_leaf : (first : ℕ) (l m : Leaf) → Matches (fact l) (fact m) → HasFrom terms first (own_terms (fact m)) → IsNamedAdd m
      → substitute_atom terms (opened_atom named first l) ≡ m.atom
  opened_leaf first l m h has names = elim (zero_test l.column) [
    | inl z ↦
        let b : m.column == 0 ≡ true = ap (λ (n : ℕ). n == 0) (sym h.0) ∙ z.1 in
        let args : map (substitute terms) (variables_from first (length l.atom.args)) ≡ m.atom.args =
        ap (λ (k : ℕ). map (substitute terms) (variables_from first k)) h.3 ∙ variables-are terms first m.atom.args (rw b at has) in
        rw z.1 (λ i. record { pred = h.2 i; args = args i })
    | inr z ↦
        rw z.1 (ap (λ (n : ℕ). substitute_atom terms (named n l.index)) h.0 ∙ ap (λ (n : ℕ). substitute_atom terms (named m.column n)) h.1
        ∙ sym (names (omega (arith, h.0, z.0))))
  ]

  mutual
    pub opened-is : (first : ℕ) (q u : Derivation) → Matches q u → HasFrom terms first (own_terms u) → All IsNamedAdd (leaves_of u)
        → derivation_under terms (opened named first q) ≡ u
    opened-is first (fact l) (fact m) h has names = ap fact (same_leaf _ m h.0 h.1 (opened_leaf first l m h has (names 0 m (omega arith))))
    opened-is first (ancestor i) (ancestor j) h has names = ap ancestor h
    opened-is first (step c theta place parts) (step d tau spot others) h has names =
        let own = variables-are terms first tau (HasFrom-prefix terms first tau (all_own_terms others) has) in
        let args : map (substitute terms) (variables_from first (length theta)) ≡ tau =
        ap (λ (k : ℕ). map (substitute terms) (variables_from first k)) h.2 ∙ own in
        let rest =
        all_opened-are (first + length theta) parts others h.3
        (HasFrom-back terms first (first + length theta) tau (all_own_terms others) (omega (arith, h.2)) has) names in
        λ i. step (h.0 i) (args i) (h.1 i) (rest i)
    opened-is first (fact l) (ancestor j) h has names = absurd h
    opened-is first (fact l) (step d tau spot others) h has names = absurd h
    opened-is first (fact l) (gap a) h has names = absurd h
    opened-is first (fact l) open_place h has names = absurd h
    opened-is first (ancestor i) (fact m) h has names = absurd h
    opened-is first (ancestor i) (step d tau spot others) h has names = absurd h
    opened-is first (ancestor i) (gap a) h has names = absurd h
    opened-is first (ancestor i) open_place h has names = absurd h
    opened-is first (step c theta place parts) (fact m) h has names = absurd h
    opened-is first (step c theta place parts) (ancestor j) h has names = absurd h
    opened-is first (step c theta place parts) (gap a) h has names = absurd h
    opened-is first (step c theta place parts) open_place h has names = absurd h
    opened-is first (gap a) u h has names = absurd h
    opened-is first open_place u h has names = absurd h

    all_opened-are : (first : ℕ) (qs us : Derivations) → AllMatch qs us → HasFrom terms first (all_own_terms us)
        → All IsNamedAdd (all_leaves_of us) → derivations_under terms (all_opened named first qs) ≡ us
    all_opened-are first none none h has names = refl
    all_opened-are first (also q qs) (also u us) h has names =
        let one =
        opened-is first q u h.0 (HasFrom-prefix terms first (own_terms u) (all_own_terms us) has)
        (All-prefix IsNamedAdd (leaves_of u) (all_leaves_of us) names) in
        let rest =
        all_opened-are (first + fresh_in q) qs us h.1
        (HasFrom-back terms first (first + fresh_in q) (own_terms u) (all_own_terms us) (omega (arith, fresh-own q u h.0)) has)
        (All-back IsNamedAdd (leaves_of u) (all_leaves_of us) names) in
        λ i. also (one i) (rest i)
    all_opened-are first none (also u us) h has names = absurd h
    all_opened-are first (also q qs) none h has names = absurd h
