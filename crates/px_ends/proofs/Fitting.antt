-- The test of a match says that some objects for its variables, one for each, make the pattern the atom.
use Rattle.std.specs.Prelude.{◌==◌, Bool, cond, not, ◌&&◌, ◌||◌}
use Rattle.std.specs.Cmp.{first_so, second_so}
use Rattle.std.specs.Cmp.Lexicographic.{pointwise}
use Rattle.std.specs.List.{list_all, zip}
use Rattle.std.proofs.Common.{◌≡◌, ℕ, true, false, List, [], ◌∷◌, map, refl, sym, ap, ◌∙◌, subst, inl, inr, Contains, eq-eqb}
use borrow.Author.Tests.{eqb-true}
use Rattle.px_base.specs.ListLaws.{Contains-cases, Contains-first, Contains-later, Contains-none}
use Rattle.px_terms.specs.declared.atom.Atom.{Atom}
use Rattle.px_terms.specs.declared.term.Term.{Term}
use Rattle.px_terms.specs.declared.term.Term.TheVariants.{Obj, Var, Any}
use Rattle.px_terms.specs.Language.{object_of}
use Rattle.px_terms.specs.Order.{term_eq}
use Rattle.px_terms.specs.OrderLaws.{both, term_eq-decides}
use Rattle.px_ends.specs.Lacks.{IsMatch, are_alike, fits, fits_place, with_objects}
use Rattle.px_ends.specs.ValueLaws.{FitsIsMatch}

-- ---- tests of all items

all-pass : {X : Type 0} (f : X → Bool) (xs : List X) → list_all f xs ≡ true → (x : X) → Contains xs x → f x ≡ true
all-pass f [] h x has = absurd (Contains-none x has)
all-pass f (y ∷ xs) h x has = elim (Contains-cases y xs x has) [
  | inl e ↦ ap f (sym e) ∙ first_so (f y) (list_all f xs) h
  | inr later ↦ all-pass f xs (second_so (f y) (list_all f xs) h) x later
]

pass-all : {X : Type 0} (f : X → Bool) (xs : List X) → ((x : X) → Contains xs x → f x ≡ true) → list_all f xs ≡ true
pass-all f [] each = refl
pass-all f (x ∷ xs) each =
    both _ _ (each x (Contains-first x xs)) (pass-all f xs (λ y has. each y (Contains-later x xs y has)))

-- ---- a term and what stands for it

is-object : (v : ℕ) (t : Term) → fits_place (Var v) t ≡ true → t ≡ Obj (object_of t)
is-object v (Obj n) h = refl
is-object v (Var w) h = absurd (cc)
is-object v Any h = absurd (cc)

object : (m : ℕ) (t : Term) → fits_place (Obj m) t ≡ true → t ≡ Obj m
object m (Obj n) h = ap Obj (sym (eqb-true m n h))
object m (Var w) h = absurd (cc)
object m Any h = absurd (cc)

wild : (t : Term) → fits_place Any t ≡ true → t ≡ Any
wild (Obj n) h = absurd (cc)
wild (Var w) h = absurd (cc)
wild Any h = refl

place-fits : (objects : ℕ → ℕ) (p : Term) → fits_place p (with_objects objects p) ≡ true
place-fits objects (Obj m) = eq-eqb m m refl
place-fits objects (Var v) = refl
place-fits objects Any = refl

-- ---- pairs of terms

abbrev Pair : Type 0
Pair = Term × Term

pair-fits : (ps ts : List Term) → pointwise fits_place ps ts ≡ true → (p t : Term) → Contains (zip ps ts) (p, t)
    → fits_place p t ≡ true
pair-fits [] ts h p t has = absurd (Contains-none (p, t) has)
pair-fits (q ∷ ps) [] h p t has = absurd (Contains-none (p, t) has)
pair-fits (q ∷ ps) (u ∷ us) h p t has = elim (Contains-cases (q, u) (zip ps us) (p, t) has) [
  | inl e ↦
      ap (λ (x : Pair). fits_place x.0 x.1) (sym e) ∙ first_so (fits_place q u) (pointwise fits_place ps us) h
  | inr later ↦ pair-fits ps us (second_so (fits_place q u) (pointwise fits_place ps us) h) p t later
]

pairs-alike : (ps ts : List Term) → are_alike ps ts ≡ true → (v : ℕ) (t u : Term) → Contains (zip ps ts) (Var v, t)
    → Contains (zip ps ts) (Var v, u) → t ≡ u
pairs-alike ps ts h v t u one other =
    let outer =
    all-pass (λ (p : Pair). list_all (λ (q : Pair). not (term_eq p.0 q.0) || term_eq p.1 q.1) (zip ps ts)) (zip ps ts) h (Var v, t)
    one in
    let inner = all-pass (λ (q : Pair). not (term_eq (Var v) q.0) || term_eq t q.1) (zip ps ts) outer (Var v, u) other in
    so (term_eq (Var v) (Var v)) ((term_eq-decides (Var v) (Var v)).1 refl) inner
  where
    so : (b : Bool) → b ≡ true → (not b || term_eq t u) ≡ true → t ≡ u
    so true e h = (term_eq-decides t u).0 h
    so false e h = absurd (cc)

-- the object in the first place where the variable stands
abbrev objects_by : List Term → List Term → ℕ → ℕ
objects_by [] ts v = 0
objects_by (p ∷ ps) [] v = 0
objects_by (p ∷ ps) (t ∷ ts) v = cond (term_eq p (Var v)) (object_of t) (objects_by ps ts v)

stands : (ps ts : List Term) → pointwise fits_place ps ts ≡ true → (v : ℕ) (t : Term) → Contains (zip ps ts) (Var v, t)
    → Contains (zip ps ts) (Var v, Obj (objects_by ps ts v))
stands [] ts h v t has = absurd (Contains-none (Var v, t) has)
stands (p ∷ ps) [] h v t has = absurd (Contains-none (Var v, t) has)
stands (p ∷ ps) (u ∷ us) h v t has =
    by (term_eq p (Var v)) refl
    (λ later. stands ps us (second_so (fits_place p u) (pointwise fits_place ps us) h) v t later)
  where
    by : (b : Bool) → term_eq p (Var v) ≡ b
        → (Contains (zip ps us) (Var v, t) → Contains (zip ps us) (Var v, Obj (objects_by ps us v)))
        → Contains ((p, u) ∷ zip ps us) (Var v, Obj (cond b (object_of u) (objects_by ps us v)))
    by true e onward =
        let same : p ≡ Var v = (term_eq-decides p (Var v)).0 e in
        let object : u ≡ Obj (object_of u) =
        is-object v u (ap (λ (x : Term). fits_place x u) (sym same) ∙ first_so (fits_place p u) (pointwise fits_place ps us) h) in
        let prefix : Pair = (p, u) in
        subst (λ (x : Pair). Contains ((p, u) ∷ zip ps us) x) (cc (same, object)) (Contains-first prefix (zip ps us))
    by false e onward = elim (Contains-cases (p, u) (zip ps us) (Var v, t) has) [
      | inl is ↦ absurd (differs (term_eq p (Var v)) e ((term_eq-decides p (Var v)).1 (ap (λ (x : Pair). x.0) is)))
      | inr later ↦ Contains-later (p, u) (zip ps us) (Var v, Obj (objects_by ps us v)) (onward later)
    ]
      where
        differs : (b : Bool) → b ≡ false → ¬ (b ≡ true)
        differs b f t = cc

module _ (objects : ℕ → ℕ) where
  -- where each pair has the term with the objects, the lists do
  each-place : (ps ts : List Term) → pointwise fits_place ps ts ≡ true
      → ((p t : Term) → Contains (zip ps ts) (p, t) → t ≡ with_objects objects p) → ts ≡ map (with_objects objects) ps
  each-place [] [] h each = refl
  each-place [] (t ∷ ts) h each = absurd (cc)
  each-place (p ∷ ps) [] h each = absurd (cc)
  each-place (p ∷ ps) (t ∷ ts) h each = cc (
    each p t (Contains-first (p, t) (zip ps ts)),
    each-place ps ts (second_so (fits_place p t) (pointwise fits_place ps ts) h)
        (λ q u has. each q u (Contains-later (p, t) (zip ps ts) (q, u) has)),
  )

  places-fit : (ps : List Term) → pointwise fits_place ps (map (with_objects objects) ps) ≡ true
  places-fit [] = refl
  places-fit (p ∷ ps) = both _ _ (place-fits objects p) (places-fit ps)

  made-pair : (ps : List Term) (x : Pair) → Contains (zip ps (map (with_objects objects) ps)) x → x.1 ≡ with_objects objects x.0
  made-pair [] x has = absurd (Contains-none x has)
  made-pair (p ∷ ps) x has = elim (Contains-cases (p, with_objects objects p) (zip ps (map (with_objects objects) ps)) x has) [
    | inl e ↦ ap (λ (y : Pair). y.1) (sym e) ∙ ap (λ (y : Pair). with_objects objects y.0) e
    | inr later ↦ made-pair ps x later
  ]

  abbrev pairs_of : List Term → List Pair
  pairs_of ps = zip ps (map (with_objects objects) ps)

  made-alike : (ps : List Term) → are_alike ps (map (with_objects objects) ps) ≡ true
  made-alike ps =
      pass-all (λ (p : Pair). list_all (λ (q : Pair). not (term_eq p.0 q.0) || term_eq p.1 q.1) (pairs_of ps)) (pairs_of ps)
      (λ p has_p. pass-all (λ (q : Pair). not (term_eq p.0 q.0) || term_eq p.1 q.1) (pairs_of ps)
      (λ q has_q. so p q has_p has_q (term_eq p.0 q.0) refl))
    where
      so : (p q : Pair) → Contains (pairs_of ps) p → Contains (pairs_of ps) q → (b : Bool) → term_eq p.0 q.0 ≡ b
          → (not b || term_eq p.1 q.1) ≡ true
      so p q has_p has_q false e = refl
      so p q has_p has_q true e =
          (term_eq-decides p.1 q.1).1 (made-pair ps p has_p
          ∙ ap (λ (t : Term). with_objects objects t) ((term_eq-decides p.0 q.0).0 e) ∙ sym (made-pair ps q has_q))

-- ---- the law

module _ (pattern atom : Atom) where
  abbrev ps : List Term
  ps = pattern.args

  abbrev ts : List Term
  ts = atom.args

  fits-so : fits pattern atom ≡ true → IsMatch pattern atom
  fits-so h =
      let pred = eqb-true atom.pred pattern.pred (first_so (atom.pred == pattern.pred) (pointwise fits_place ps ts && are_alike ps ts) h) in
      let both_so = second_so (atom.pred == pattern.pred) (pointwise fits_place ps ts && are_alike ps ts) h in
      let places = first_so (pointwise fits_place ps ts) (are_alike ps ts) both_so in
      let alike = second_so (pointwise fits_place ps ts) (are_alike ps ts) both_so in
      let args : ts ≡ map (with_objects (objects_by ps ts)) ps = each-place (objects_by ps ts) ps ts places (each places alike) in
      (objects_by ps ts, λ i. record { pred = pred i; args = args i })
    where
      each : pointwise fits_place ps ts ≡ true → are_alike ps ts ≡ true → (p t : Term) → Contains (zip ps ts) (p, t)
          → t ≡ with_objects (objects_by ps ts) p
      each places alike (Obj m) t has = object m t (pair-fits ps ts places (Obj m) t has)
      each places alike (Var v) t has = pairs-alike ps ts alike v t (Obj (objects_by ps ts v)) has (stands ps ts places v t has)
      each places alike Any t has = wild t (pair-fits ps ts places Any t has)

  fits-to : IsMatch pattern atom → fits pattern atom ≡ true
  fits-to (objects, is) = subst (λ (a : Atom). fits pattern a ≡ true) (sym is)
      (both _ _ (eq-eqb pattern.pred pattern.pred refl) (both _ _ (places-fit objects ps) (made-alike objects ps)))

pub fits_is_match : FitsIsMatch
fits_is_match pattern atom = (fits-so pattern atom, fits-to pattern atom)
