-- All lists of a given number of objects.
use Rattle.std.proofs.Common.{◌≡◌, ◌∙◌, ℕ, zero, suc, ◌+◌, ◌<◌, List, [], ◌∷◌, ◌++◌, length, take, get_or, refl, ap, sym, subst, arith, append_assoc, inl, inr}
use Rattle.std.specs.Prelude.{All, Contains}
use Rattle.std.proofs.lemmas.Bool.{cases_lt}
use Rattle.std.proofs.lemmas.List.{append-nil, length_push}
use Rattle.std.proofs.lemmas.List.Elements.{All-push, Contains-append_left, Contains-append_right, Contains-append_cases, Contains-push, Contains-push_cases}
use Rattle.px_base.specs.ListLaws.{All-at, All-each, Contains-cases, Contains-first, Contains-later, Contains-none, Contains-one}
use Rattle.px_prover.specs.Tuples.{longer_by, all_longer_by, tuples_of}

-- ---- how they are made

pub longer-start : (old : List (List ℕ)) (tuple : List ℕ) → old ≡ old ++ longer_by tuple 0
unfolding longer_by
longer-start old tuple = sym (append-nil old)

pub longer-next : (old made new : List (List ℕ)) (tuple more : List ℕ) (n : ℕ) → made ≡ old ++ longer_by tuple n → new ≡ made ++ more ∷ []
    → more ≡ tuple ++ n ∷ [] → new ≡ old ++ longer_by tuple (n + 1)
unfolding longer_by
longer-next old made new tuple more n made_is new_is more_is =
    let one : n + 1 ≡ suc n = omega arith in
    rw one (new_is ∙ ap (λ (xs : List (List ℕ)). xs ++ more ∷ []) made_is ∙ append_assoc old (longer_by tuple n) (more ∷ [])
    ∙ ap (λ (x : List ℕ). old ++ (longer_by tuple n ++ x ∷ [])) more_is)

all-next : (objects : ℕ) (ts : List (List ℕ)) (i : ℕ) (x : List ℕ) → i < length ts → x ≡ get_or ts i x
    → all_longer_by objects (take (i + 1) ts) ≡ all_longer_by objects (take i ts) ++ longer_by x objects
all-next objects [] i x within is = absurd (omega (arith, within))
all-next objects (t ∷ ts) zero x within is = rw is (append-nil (longer_by t objects))
all-next objects (t ∷ ts) (suc i) x within is =
    let one : suc i + 1 ≡ suc (i + 1) = omega arith in
    rw one (ap (λ (xs : List (List ℕ)). longer_by t objects ++ xs) (all-next objects ts i x (omega (arith, within)) is)
    ∙ sym (append_assoc (longer_by t objects) (all_longer_by objects (take i ts)) (longer_by x objects)))

pub all_longer-next : (objects : ℕ) (ts made new : List (List ℕ)) (i : ℕ) (x : List ℕ) → i < length ts → x ≡ get_or ts i x
    → made ≡ all_longer_by objects (take i ts) → new ≡ made ++ longer_by x objects → new ≡ all_longer_by objects (take (i + 1) ts)
all_longer-next objects ts made new i x within is made_is new_is =
    new_is ∙ ap (λ (xs : List (List ℕ)). xs ++ longer_by x objects) made_is ∙ sym (all-next objects ts i x within is)

pub tuples-start : (objects : ℕ) (made old : List (List ℕ)) (first items : List ℕ) → old ≡ [] → made ≡ old ++ first ∷ [] → first ≡ items
    → items ≡ [] → made ≡ tuples_of objects 0
unfolding tuples_of
tuples-start objects made old first items old_is made_is first_is items_is =
    made_is ∙ ap (λ (xs : List (List ℕ)). xs ++ first ∷ []) old_is ∙ ap (λ (x : List ℕ). x ∷ []) (first_is ∙ items_is)

pub tuples-next : (objects n : ℕ) (made read new : List (List ℕ)) → made ≡ tuples_of objects n → read ≡ made
    → new ≡ all_longer_by objects read → new ≡ tuples_of objects (n + 1)
unfolding tuples_of
tuples-next objects n made read new made_is read_is new_is =
    let one : n + 1 ≡ suc n = omega arith in rw one (new_is ∙ ap (all_longer_by objects) (read_is ∙ made_is))

-- ---- which they are

longer-has : (tuple : List ℕ) (n k : ℕ) → k < n → Contains (longer_by tuple n) (tuple ++ k ∷ [])
unfolding longer_by
longer-has tuple zero k less = absurd (omega (arith, less))
longer-has tuple (suc n) k less = elim (cases_lt k n) [
  | inl before ↦ Contains-append_left (longer_by tuple n) ((tuple ++ n ∷ []) ∷ []) (tuple ++ k ∷ []) (longer-has tuple n k before)
  | inr last ↦
      let same : n ≡ k = omega (arith, last, less) in
      subst (λ (m : ℕ). Contains (longer_by tuple n ++ (tuple ++ n ∷ []) ∷ []) (tuple ++ m ∷ [])) same
      (Contains-push (longer_by tuple n) (tuple ++ n ∷ []))
]

longer-only : (tuple : List ℕ) (n : ℕ) (t : List ℕ) → Contains (longer_by tuple n) t → (k : ℕ) × (k < n) × (tuple ++ k ∷ [] ≡ t)
unfolding longer_by
longer-only tuple zero t has = absurd (Contains-none t has)
longer-only tuple (suc n) t has = elim (Contains-push_cases (longer_by tuple n) (tuple ++ n ∷ []) t has) [
  | inl h ↦ let r = longer-only tuple n t h in (r.0, omega (arith, r.1), r.2)
  | inr e ↦ (n, omega arith, e)
]

all-has : (objects : ℕ) (ts : List (List ℕ)) (tuple : List ℕ) (k : ℕ) → Contains ts tuple → k < objects
    → Contains (all_longer_by objects ts) (tuple ++ k ∷ [])
all-has objects [] tuple k has less = absurd (Contains-none tuple has)
all-has objects (t ∷ ts) tuple k has less = elim (Contains-cases t ts tuple has) [
  | inl is ↦ Contains-append_left (longer_by t objects) (all_longer_by objects ts) (tuple ++ k ∷ [])
      (subst (λ (x : List ℕ). Contains (longer_by t objects) (x ++ k ∷ [])) is (longer-has t objects k less))
  | inr later ↦ Contains-append_right (longer_by t objects) (all_longer_by objects ts) (tuple ++ k ∷ [])
      (all-has objects ts tuple k later less)
]

all-only : (objects : ℕ) (ts : List (List ℕ)) (u : List ℕ) → Contains (all_longer_by objects ts) u
    → (tuple : List ℕ) × (k : ℕ) × Contains ts tuple × (k < objects) × (tuple ++ k ∷ [] ≡ u)
all-only objects [] u has = absurd (Contains-none u has)
all-only objects (t ∷ ts) u has = elim (Contains-append_cases (longer_by t objects) (all_longer_by objects ts) u has) [
  | inl h ↦ let r = longer-only t objects u h in (t, r.0, Contains-first t ts, r.1, r.2)
  | inr h ↦ let r = all-only objects ts u h in (r.0, r.1, Contains-later t ts r.0 r.2, r.3, r.4)
]

pub tuples-only : (objects n : ℕ) (t : List ℕ) → Contains (tuples_of objects n) t → (length t ≡ n) × All (λ x. x < objects) t
unfolding tuples_of
tuples-only objects zero t has =
    subst (λ (u : List ℕ). (length u ≡ 0) × All (λ x. x < objects) u) (Contains-one [] t has)
    (refl, λ k d within. absurd (omega (arith, within)))
tuples-only objects (suc n) t has =
    let r = all-only objects (tuples_of objects n) t has in
    let before = tuples-only objects n r.0 r.2 in
    subst (λ (u : List ℕ). (length u ≡ suc n) × All (λ x. x < objects) u) r.4
    (omega (arith, length_push r.0 r.1, before.0), All-push (λ x. x < objects) r.0 r.1 before.1 r.3)

-- a list with an item has a last one
has-end : (x : ℕ) (xs : List ℕ) → (prefix : List ℕ) × (last : ℕ) × (prefix ++ last ∷ [] ≡ x ∷ xs)
has-end x [] = ([], x, refl)
has-end x (y ∷ xs) = let r = has-end y xs in (x ∷ r.0, r.1, ap (λ (zs : List ℕ). x ∷ zs) r.2)

pub tuples-have : (objects n : ℕ) (t : List ℕ) → length t ≡ n → All (λ x. x < objects) t → Contains (tuples_of objects n) t
unfolding tuples_of
tuples-have objects zero [] long below = Contains-first [] []
tuples-have objects zero (x ∷ t) long below = absurd (omega (arith, long))
tuples-have objects (suc n) [] long below = absurd (omega (arith, long))
tuples-have objects (suc n) (x ∷ t) long below =
    let end = has-end x t in
    let all : All (λ y. y < objects) (end.0 ++ end.1 ∷ []) = subst (All (λ y. y < objects)) (sym end.2) below in
    let shorter : length end.0 ≡ n = omega (arith, length_push end.0 end.1, ap length end.2 ∙ long) in
    let prefix : All (λ y. y < objects) end.0 =
    All-each (λ y. y < objects) end.0 (λ y has. All-at (λ z. z < objects) (end.0 ++ end.1 ∷ []) y all
    (Contains-append_left end.0 (end.1 ∷ []) y has)) in
    let last : end.1 < objects = All-at (λ z. z < objects) (end.0 ++ end.1 ∷ []) end.1 all (Contains-push end.0 end.1) in
    rw (← end.2) (all-has objects (tuples_of objects n) end.0 end.1 (tuples-have objects n end.0 shorter prefix) last)
