-- The loops that collect objects and proofs.
use Rattle.std.proofs.Common.{◌≡◌, ◌⊎◌, ℕ, zero, suc, ◌+◌, ◌-◌, ◌<◌, ◌≤◌, Some, List, [], ◌∷◌, ◌++◌, length, take, drop, map, get_or, slice_get, refl, ap, sym, subst, ◌∙◌, arith, inl, inr, length-append, reverse}
use Rattle.std.specs.Prelude.{slice_index}
use Rattle.std.specs.List.{AllByRecursion}
use Rattle.std.proofs.lemmas.List.{drop_all, get_or_append_left, get_or_push, reverse-append}
use Rattle.px_prover.proofs.Noting.{below-or-last}
use Rattle.px_prover.specs.Building.{IsLeastAt, IsThere, built, extended, fresh_sum, parts_count}
use Rattle.px_proof.specs.LayerLaws.{derivation_of-step}
use Rattle.px_proof.specs.Derivation.{Derivation, derivations, step}
use Rattle.px_proof.specs.PlaceLaws.{slice_get-read}
use Rattle.px_proof.specs.ProofTerm.{derivation_of}
use Rattle.px_proof.specs.declared.proof.Proof.{Proof}
use Rattle.px_proof.specs.declared.proof.Proof.TheViews.{Step as StepProof}
use Rattle.px_terms.specs.Clauses.{IsArena}
use Rattle.px_terms.specs.declared.clause.Clause.{Clause}
use Rattle.px_terms.specs.declared.clause.Lit.{Lit}
use Rattle.px_terms.specs.declared.term.Term.{Term}
use Rattle.px_question.specs.Settings.{Setting}
use Rattle.px_proof_state.specs.declared.open.Choice.{Choice}
use Rattle.px_unify.specs.declared.change.Change.{Change}
use Rattle.px_proof_walk.specs.Pending.{fresh_of}

-- ---- objects

pub least-push : (changes : List Change) (objects new : List ℕ) (v object : ℕ) → length objects ≡ v
    → ((k : ℕ) → k < length objects → IsLeastAt changes k (slice_index objects k)) → IsLeastAt changes v object
    → new ≡ objects ++ object ∷ []
    → (length new ≡ v + 1) × ((k : ℕ) → k < length new → IsLeastAt changes k (slice_index new k))
least-push changes objects new v object long each one is =
    rw is (
      length-append objects (object ∷ [])
          ∙ omega (arith, long),
      λ k within. go k (below-or-last k (length objects) (omega (arith, within, length-append objects (object ∷ [])))),
    )
  where
    go : (k : ℕ) → (k < length objects) ⊎ (k ≡ length objects) → IsLeastAt changes k (slice_index (objects ++ object ∷ []) k)
    go k (inl h) =
        let here : slice_index (objects ++ object ∷ []) k ≡ slice_index objects k =
        get_or_append_left objects (object ∷ []) 0 k h in rw here (each k h)
    go k (inr e) =
        let last : slice_index (objects ++ object ∷ []) (length objects) ≡ object =
        get_or_push objects object 0 (length objects) refl in rw (e, last, long) one

-- ---- taking off the end

take-next : {X : Type 0} (R : List X) (t : ℕ) (x : X) (rest : List X) → drop t R ≡ x ∷ rest
    → (take (suc t) R ≡ take t R ++ x ∷ []) × (drop (suc t) R ≡ rest)
take-next [] zero x rest e = absurd (cc)
take-next [] (suc t) x rest e = absurd (cc)
take-next (y ∷ R) zero x rest e = let head : y ≡ x = cc in let tail : R ≡ rest = cc in (ap (λ z. z ∷ []) head, tail)
take-next (y ∷ R) (suc t) x rest e = let h = take-next R t x rest e in (ap (λ ys. y ∷ ys) h.0, h.1)

take-none : {X : Type 0} (R : List X) (t : ℕ) → drop t R ≡ [] → (take (suc t) R ≡ take t R) × (drop (suc t) R ≡ [])
take-none [] zero e = (refl, refl)
take-none [] (suc t) e = (refl, refl)
take-none (y ∷ R) zero e = absurd (cc)
take-none (y ∷ R) (suc t) e = let h = take-none R t e in (ap (λ ys. y ∷ ys) h.0, h.1)

module _ {X : Type 0} (R : List X) (t : ℕ) (made : List X) (rest : reverse made ≡ drop t R) where
  pub popped-some : (new : List X) (x : X) (next : ℕ) → next ≡ suc t → made ≡ new ++ x ∷ [] → (parts more : List X) → parts ≡ take t R
      → more ≡ parts ++ x ∷ [] → (more ≡ take next R) × (reverse new ≡ drop next R)
  popped-some new x next is made_is parts more parts_are more_is =
      let first : drop t R ≡ x ∷ reverse new = sym rest ∙ ap reverse made_is ∙ reverse-append new (x ∷ []) in
      let both = take-next R t x (reverse new) first in
      rw is (more_is ∙ ap (λ ys. ys ++ x ∷ []) parts_are ∙ sym both.0, sym both.1)

  pub popped-none : (new : List X) (next : ℕ) → next ≡ suc t → made ≡ new ++ [] → made ≡ [] → (parts : List X) → parts ≡ take t R
      → (parts ≡ take next R) × (reverse new ≡ drop next R)
  popped-none new next is made_is none parts parts_are =
      let end : drop t R ≡ [] = sym rest ∙ ap reverse none in
      let both = take-none R t end in
      let gone : new ≡ [] = nil-back new (sym made_is ∙ none) in
      rw is (parts_are ∙ sym both.0, ap reverse gone ∙ sym both.1)
    where
      nil-back : (xs : List X) → xs ++ [] ≡ [] → xs ≡ []
      nil-back [] e = refl
      nil-back (x ∷ xs) e = absurd (cc)

-- ---- the proofs of the choices

drop-tick : (choices : List Choice) (k : ℕ) (c : Choice) → slice_get choices k ≡ Some c
    → map (λ (d : Choice). d.tick) (drop k choices) ≡ c.tick ∷ map (λ (d : Choice). d.tick) (drop (suc k) choices)
drop-tick [] k c at = absurd (cc)
drop-tick (d ∷ choices) zero c at = let same : d ≡ c = cc in ap (λ (x : Choice). x.tick ∷ map (λ (y : Choice). y.tick) choices) same
drop-tick (d ∷ choices) (suc k) c at = drop-tick choices k c at

sum-drop : (s : Setting) (choices : List Choice) (k : ℕ)
    → fresh_sum s (map (λ (d : Choice). d.tick) (drop k choices)) ≤ fresh_sum s (map (λ (d : Choice). d.tick) choices)
sum-drop s [] zero = omega arith
sum-drop s [] (suc k) = omega arith
sum-drop s (c ∷ choices) zero = omega arith
sum-drop s (c ∷ choices) (suc k) = omega (arith, sum-drop s choices k)

there-at : (s : Setting) (choices : List Choice) (k : ℕ) (c : Choice) → slice_get choices k ≡ Some c
    → AllByRecursion (IsThere s) (map (λ (d : Choice). d.tick) choices) → IsThere s c.tick
there-at s [] k c at all = absurd (cc)
there-at s (d ∷ choices) zero c at all = let same : d ≡ c = cc in subst (λ (x : Choice). IsThere s x.tick) same all.0
there-at s (d ∷ choices) (suc k) c at all = there-at s choices k c at all.1

abbrev no_numbers : List ℕ
no_numbers = []

drop-none : (k : ℕ) → drop k no_numbers ≡ []
drop-none zero = refl
drop-none (suc k) = refl

drop-more : (k n : ℕ) (xs : List ℕ) → drop k (drop n xs) ≡ drop (n + k) xs
drop-more k zero xs = ap (λ m. drop m xs) (omega arith)
drop-more k (suc n) [] = drop-none k ∙ sym (drop-none (suc n + k))
drop-more k (suc n) (x ∷ xs) = let e : suc n + k ≡ suc (n + k) = omega arith in rw e (drop-more k n xs)

module _ (s : Setting) (choices : List Choice) (objects : List ℕ) where
  pub built-start : (k end : ℕ) → k ≡ length choices → end ≡ length objects
      → (end + fresh_sum s (map (λ (d : Choice). d.tick) (drop k choices)) ≡ length objects)
      × ([] ≡ built s (map (λ (d : Choice). d.tick) (drop k choices)) (drop end objects))
  built-start k end k_is end_is =
      let none : drop k choices ≡ [] = drop_all k choices (omega (arith, k_is)) in rw none (omega (arith, end_is), refl)

  module _ (j k end : ℕ) (c : Choice) (after : j ≡ suc k) (at : slice_get choices k ≡ Some c)
      (sum : end + fresh_sum s (map (λ (d : Choice). d.tick) (drop j choices)) ≡ length objects) where
    more : fresh_sum s (map (λ (d : Choice). d.tick) (drop k choices))
        ≡ fresh_of s c.tick + fresh_sum s (map (λ (d : Choice). d.tick) (drop j choices))
    more =
        ap (fresh_sum s) (drop-tick choices k c at)
        ∙ ap (λ n. fresh_of s c.tick + fresh_sum s (map (λ (d : Choice). d.tick) (drop n choices))) (sym after)

    pub built-room : fresh_sum s (map (λ (d : Choice). d.tick) choices) ≤ length objects → fresh_of s c.tick ≤ end
    built-room room = omega (arith, sum, more, sum-drop s choices k, room)

    pub built-there : AllByRecursion (IsThere s) (map (λ (d : Choice). d.tick) choices) → IsThere s c.tick
    built-there all = there-at s choices k c at all

    pub built-next : (now start : ℕ) (old new : List Derivation) → now ≡ k → start + fresh_of s c.tick ≡ end
        → old ≡ built s (map (λ (d : Choice). d.tick) (drop j choices)) (drop end objects)
        → new ≡ extended s c.tick (drop start objects) old
        → (start + fresh_sum s (map (λ (d : Choice). d.tick) (drop now choices)) ≡ length objects)
        × (new ≡ built s (map (λ (d : Choice). d.tick) (drop now choices)) (drop start objects))
    built-next now start old new now_is start_is old_is new_is =
        let rest : drop end objects ≡ drop (fresh_of s c.tick) (drop start objects) =
        ap (λ n. drop n objects) (sym start_is) ∙ sym (drop-more (fresh_of s c.tick) start objects) in
        let ticks_are : map (λ (d : Choice). d.tick) (drop k choices) ≡ c.tick ∷ map (λ (d : Choice). d.tick) (drop j choices) =
        drop-tick choices k c at ∙ ap (λ n. c.tick ∷ map (λ (d : Choice). d.tick) (drop n choices)) (sym after) in
        rw now_is (
          omega (arith, more, sum, start_is),
          new_is ∙ ap (extended s c.tick (drop start objects)) (old_is ∙ ap (built s (map (λ (d : Choice). d.tick) (drop j choices))) rest)
              ∙ ap (λ ts. built s ts (drop start objects)) (sym ticks_are),
        )

  pub built-end : (k end : ℕ) (made : List Derivation) → k ≡ 0
      → end + fresh_sum s (map (λ (d : Choice). d.tick) (drop k choices)) ≡ length objects
      → made ≡ built s (map (λ (d : Choice). d.tick) (drop k choices)) (drop end objects)
      → made ≡ built s (map (λ (d : Choice). d.tick) choices)
      (drop (length objects - fresh_sum s (map (λ (d : Choice). d.tick) choices)) objects)
  built-end k end made none sum is =
      let whole : fresh_sum s (map (λ (d : Choice). d.tick) (drop k choices)) ≡ fresh_sum s (map (λ (d : Choice). d.tick) choices) =
      ap (λ n. fresh_sum s (map (λ (d : Choice). d.tick) (drop n choices))) none in
      is ∙ ap (λ n. built s (map (λ (d : Choice). d.tick) (drop n choices)) (drop end objects)) none
      ∙ ap (λ n. built s (map (λ (d : Choice). d.tick) choices) (drop n objects)) (omega (arith, sum, whole))

-- ---- one proof more

pub pushed-one : (old new : List Proof) (p : Proof) (d : Derivation) → new ≡ old ++ p ∷ [] → derivation_of p ≡ d
    → map derivation_of (reverse new) ≡ d ∷ map derivation_of (reverse old)
pushed-one old new p d is value =
    ap (map derivation_of) (ap reverse is ∙ reverse-append old (p ∷ [])) ∙ ap (λ e. e ∷ map derivation_of (reverse old)) value

map-take : {X Y : Type 0} (f : X → Y) (n : ℕ) (xs : List X) → map f (take n xs) ≡ take n (map f xs)
map-take f zero xs = refl
map-take f (suc n) [] = refl
map-take f (suc n) (x ∷ xs) = ap (λ ys. f x ∷ ys) (map-take f n xs)

map-drop : {X Y : Type 0} (f : X → Y) (n : ℕ) (xs : List X) → map f (drop n xs) ≡ drop n (map f xs)
map-drop f zero xs = refl
map-drop f (suc n) [] = refl
map-drop f (suc n) (x ∷ xs) = map-drop f n xs

pub pushed-step : (old mid new subs : List Proof) (clause place count parts : ℕ) (theta terms : List Term) → count ≡ parts → theta ≡ terms
    → subs ≡ take count (reverse old) → reverse mid ≡ drop count (reverse old) → new ≡ mid ++ StepProof clause theta place subs ∷ []
    → map derivation_of (reverse new)
    ≡ step clause terms place (derivations (take parts (map derivation_of (reverse old))))
    ∷ drop parts (map derivation_of (reverse old))
pushed-step old mid new subs clause place count parts theta terms count_is theta_is subs_are rest_is is =
    pushed-one mid new (StepProof clause theta place subs) (step clause theta place (derivations (map derivation_of subs))) is
    (derivation_of-step clause theta place subs)
    ∙ (λ i. step clause (theta_is i) place (derivations (here i)) ∷ later i)
  where
    here : map derivation_of subs ≡ take parts (map derivation_of (reverse old))
    here =
        ap (map derivation_of) subs_are ∙ map-take derivation_of count (reverse old)
        ∙ ap (λ n. take n (map derivation_of (reverse old))) count_is

    later : map derivation_of (reverse mid) ≡ drop parts (map derivation_of (reverse old))
    later =
        ap (map derivation_of) rest_is ∙ map-drop derivation_of count (reverse old)
        ∙ ap (λ n. drop n (map derivation_of (reverse old))) count_is

-- how many parts the axiom of that number has
pub parts-are : (axioms : List Clause) (number : ℕ) (lits : List Lit) → number < length axioms
    → ((d : Clause) → lits ≡ (get_or axioms number d).lits) → length lits - 1 ≡ parts_count (slice_get axioms number)
parts-are axioms number lits within are =
    ap (λ (ls : List Lit). length ls - 1) (are no_clause) ∙ ap parts_count (sym (slice_get-read axioms number no_clause within))
  where
    no_clause : Clause
    no_clause = record { variable_count = 0; lits = [] }

-- an axiom has a literal
pub lits-some : (axioms : List Clause) (number : ℕ) (lits : List Lit) → IsArena axioms → number < length axioms
    → ((d : Clause) → lits ≡ (get_or axioms number d).lits) → 1 ≤ length lits
lits-some axioms number lits arena within are =
    omega (arith, (arena.each number (record { variable_count = 0; lits = [] }) within).size.0, ap length (are (record { variable_count = 0; lits = [] })))
