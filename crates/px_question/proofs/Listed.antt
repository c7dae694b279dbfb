-- Kinds all of whose members stand in a list.
use Rattle.std.proofs.Common.{◌≡◌, ◌⊎◌, ℕ, zero, suc, ◌<◌, Option, Some, List, [], ◌∷◌, ◌++◌, length, refl, ap, sym, subst, arith, inl, inr}
use Rattle.std.specs.Prelude.{All, Contains, None, slice_get}
use Rattle.std.proofs.lemmas.List.{nil_from_length}
use Rattle.std.proofs.lemmas.List.Elements.{All-cons, All-head, All-nil, All-tail, Contains-append_cases, Contains-append_left, Contains-append_right}
use Rattle.px_base.specs.ListLaws.{Contains-cases, Contains-first, Contains-later, Contains-none, Contains-one}
use Rattle.px_base.specs.Answers.{some_same}
use Rattle.px_proof.specs.PlaceLaws.{slice_get-within}

-- the list has what is of the kind, and nothing else
pub record Listed {X : Type 0} (P : X → Type 0) : Type 0 where
  pub items : List X
  pub all : (x : X) → P x → Contains items x
  pub each : (x : X) → Contains items x → P x

abbrev pub Decided : Type 0 → Type 0
Decided A = A ⊎ (¬ A)

pub listed-by : {X : Type 0} (P Q : X → Type 0) → ((x : X) → P x → Q x) → ((x : X) → Q x → P x) → Listed P → Listed Q
listed-by P Q to from known = record { items = known.items; all = λ x h. known.all x (from x h); each = λ x has. to x (known.each x has) }

pub listed-none : {X : Type 0} (P : X → Type 0) → ((x : X) → ¬ P x) → Listed P
listed-none P never = record { items = []; all = λ x h. absurd (never x h); each = λ x has. absurd (Contains-none x has) }

pub listed-one : {X : Type 0} (a : X) → Listed (λ x. a ≡ x)
listed-one a =
    record { items = a ∷ []; all = λ x is. subst (Contains (a ∷ [])) is (Contains-first a []); each = λ x has. Contains-one a x has }

pub listed-or : {X : Type 0} (P Q : X → Type 0) → Listed P → Listed Q → Listed (λ x. P x ⊎ Q x)
listed-or {X} P Q p q = record { items = p.items ++ q.items; all = all; each = each }
  where
    all : (x : X) → P x ⊎ Q x → Contains (p.items ++ q.items) x
    all x (inl is) = Contains-append_left p.items q.items x (p.all x is)
    all x (inr is) = Contains-append_right p.items q.items x (q.all x is)

    each : (x : X) → Contains (p.items ++ q.items) x → P x ⊎ Q x
    each x has = elim (Contains-append_cases p.items q.items x has) [ inl h ↦ inl (p.each x h) | inr h ↦ inr (q.each x h) ]

gathered : {X Y : Type 0} (Q : X → Y → Type 0) → ((x : X) → Listed (Q x)) → (xs : List X) → Listed (λ y. (x : X) × Contains xs x × Q x y)
gathered {X} {Y} Q q [] = listed-none (λ y. (x : X) × Contains [] x × Q x y) (λ y h. Contains-none h.0 h.1)
gathered {X} {Y} Q q (x ∷ xs) =
    listed-by (λ y. Q x y ⊎ ((z : X) × Contains xs z × Q z y)) (λ y. (z : X) × Contains (x ∷ xs) z × Q z y) to from
    (listed-or (Q x) (λ y. (z : X) × Contains xs z × Q z y) (q x) (gathered Q q xs))
  where
    to : (y : Y) → Q x y ⊎ ((z : X) × Contains xs z × Q z y) → (z : X) × Contains (x ∷ xs) z × Q z y
    to y (inl h) = (x, Contains-first x xs, h)
    to y (inr h) = (h.0, Contains-later x xs h.0 h.1, h.2)

    from : (y : Y) → (z : X) × Contains (x ∷ xs) z × Q z y → Q x y ⊎ ((z : X) × Contains xs z × Q z y)
    from y h = elim (Contains-cases x xs h.0 h.1) [ inl is ↦ inl (subst (λ z. Q z y) (sym is) h.2) | inr later ↦ inr (h.0, later, h.2) ]

-- what each of one kind brings
pub listed-each : {X Y : Type 0} (P : X → Type 0) (Q : X → Y → Type 0) → Listed P → ((x : X) → Listed (Q x))
    → Listed (λ y. (x : X) × P x × Q x y)
listed-each {X} {Y} P Q p q =
    listed-by (λ y. (x : X) × Contains p.items x × Q x y) (λ y. (x : X) × P x × Q x y) (λ y h. (h.0, p.each h.0 h.1, h.2))
    (λ y h. (h.0, p.all h.0 h.1, h.2)) (gathered Q q p.items)

pub listed-map : {X Y : Type 0} (P : X → Type 0) (f : X → Y) → Listed P → Listed (λ y. (x : X) × P x × (f x ≡ y))
listed-map P f p = listed-each P (λ x y. f x ≡ y) p (λ x. listed-one (f x))

pub listed-if : {X : Type 0} (A : Type 0) (P : X → Type 0) → Decided A → Listed P → Listed (λ x. A × P x)
listed-if A P (inl h) p = listed-by P (λ x. A × P x) (λ x is. (h, is)) (λ x is. is.1) p
listed-if A P (inr never) p = listed-none (λ x. A × P x) (λ x is. never is.0)

pub listed-where : {X : Type 0} (P Q : X → Type 0) → Listed P → ((x : X) → Decided (Q x)) → Listed (λ x. P x × Q x)
listed-where {X} P Q p decided =
    listed-by (λ y. (x : X) × P x × (Q x × (x ≡ y))) (λ x. P x × Q x) (λ y h. (subst P h.2.1 h.1, subst Q h.2.1 h.2.0))
    (λ y h. (y, h.0, (h.1, refl)))
    (listed-each P (λ x y. Q x × (x ≡ y)) p (λ x. listed-if (Q x) (λ y. x ≡ y) (decided x) (listed-one x)))

-- ---- numbers, and lists of them

below_last : (n k : ℕ) → k < suc n → (n ≡ k) ⊎ (k < n)
below_last zero zero h = inl refl
below_last zero (suc k) h = absurd (omega (arith, h))
below_last (suc n) zero h = inr (omega arith)
below_last (suc n) (suc k) h = elim (below_last n k (omega (arith, h))) [ inl is ↦ inl (ap suc is) | inr less ↦ inr (omega (arith, less)) ]

pub listed-below : (n : ℕ) → Listed (λ k. k < n)
listed-below zero = listed-none (λ k. k < 0) (λ k h. omega (arith, h))
listed-below (suc n) =
    listed-by (λ k. (n ≡ k) ⊎ (k < n)) (λ k. k < suc n) to (below_last n)
    (listed-or (λ k. n ≡ k) (λ k. k < n) (listed-one n) (listed-below n))
  where
    to : (k : ℕ) → (n ≡ k) ⊎ (k < n) → k < suc n
    to k (inl is) = omega (arith, is)
    to k (inr less) = omega (arith, less)

-- `n` numbers, all below the bound
abbrev pub AreBelow : ℕ → ℕ → List ℕ → Type 0
AreBelow bound n ns = (length ns ≡ n) × All (λ k. k < bound) ns

pub listed-tuples : (bound n : ℕ) → Listed (AreBelow bound n)
listed-tuples bound zero =
    listed-by (λ ns. [] ≡ ns) (AreBelow bound 0) (λ ns is. subst (AreBelow bound 0) is (refl, All-nil (λ k. k < bound)))
    (λ ns h. sym (nil_from_length ns h.0)) (listed-one [])
listed-tuples bound (suc n) =
    listed-by (λ ns. (k : ℕ) × (k < bound) × ((rest : List ℕ) × AreBelow bound n rest × (k ∷ rest ≡ ns))) (AreBelow bound (suc n)) to from
    (listed-each (λ k. k < bound) (λ k ns. (rest : List ℕ) × AreBelow bound n rest × (k ∷ rest ≡ ns)) (listed-below bound)
    (λ k. listed-map (AreBelow bound n) (λ rest. k ∷ rest) (listed-tuples bound n)))
  where
    to : (ns : List ℕ) → (k : ℕ) × (k < bound) × ((rest : List ℕ) × AreBelow bound n rest × (k ∷ rest ≡ ns)) → AreBelow bound (suc n) ns
    to ns (k, below, (rest, are, is)) = subst (AreBelow bound (suc n)) is (ap suc are.0, All-cons (λ m. m < bound) k rest below are.1)

    from : (ns : List ℕ) → AreBelow bound (suc n) ns → (k : ℕ) × (k < bound) × ((rest : List ℕ) × AreBelow bound n rest × (k ∷ rest ≡ ns))
    from [] h = absurd (omega (arith, h.0))
    from (k ∷ rest) h = (k, All-head (λ m. m < bound) k rest h.1, (rest, (omega (arith, h.0), All-tail (λ m. m < bound) k rest h.1), refl))

-- ---- places

never_none : {X G : Type 0} (x : X) → ◌≡◌ {A = Option X} None (Some x) → G
never_none x e = cc

pub option_decided : {X : Type 0} → ((a b : X) → Decided (a ≡ b)) → (o : Option X) (x : X) → Decided (o ≡ Some x)
option_decided decided None x = inr (λ e. never_none x e)
option_decided decided (Some a) x =
    elim (decided a x) [ inl is ↦ inl (ap (λ y. Some y) is) | inr other ↦ inr (λ e. other (some_same e)) ]

-- the places of an element
pub listed-places : {X : Type 0} → ((a b : X) → Decided (a ≡ b)) → (xs : List X) (x : X) → Listed (λ i. slice_get xs i ≡ Some x)
listed-places decided xs x =
    listed-by (λ i. (i < length xs) × (slice_get xs i ≡ Some x)) (λ i. slice_get xs i ≡ Some x) (λ i h. h.1)
    (λ i at. (slice_get-within xs i x at, at))
    (listed-where (λ i. i < length xs) (λ i. slice_get xs i ≡ Some x) (listed-below (length xs))
    (λ i. option_decided decided (slice_get xs i) x))
