-- Reading lists of terms at a place, and what is in lists.
use Rattle.std.specs.Prelude.{◌≡◌, ◌⊎◌, ◌+◌, ◌<◌, ◌≤◌, ℕ, true, false, nat_lt, Option, List, [], ◌∷◌, ◌++◌, map, length, flat_map, slice_get, slice_index, slice_index_or, unwrap_or, All, Contains}
use Rattle.std.proofs.Common.{zero, suc, refl, sym, ap, ◌∙◌, subst, inl, inr, arith}
use Rattle.std.proofs.lemmas.Bool.Decides.{nat_tests}
use Rattle.std.proofs.lemmas.List.{map-append}
use Rattle.std.proofs.lemmas.List.Elements.{Contains-append_left, Contains-append_right, Contains-append_cases}
use Rattle.std.proofs.lemmas.Option.{unwrap_or-slice_get}
use Rattle.px_base.specs.ListLaws.{All-at, All-each, Contains-none, Contains-first, Contains-later, Contains-cases}
use Rattle.px_terms.specs.declared.term.Term.{Term}
use Rattle.px_terms.specs.declared.term.Term.TheVariants.{Obj, Var, Any as WildCard}
use Rattle.px_terms.specs.Substitution.{variables_from}

pub less_or_not : (a b : ℕ) → (a < b) ⊎ (b ≤ a)
less_or_not a b = grind arith

pub lt-true : (a b : ℕ) → a < b → nat_lt a b ≡ true
lt-true a b below = grind (arith, nat_tests)

pub lt-false : (a b : ℕ) → b ≤ a → nat_lt a b ≡ false
lt-false a b above = grind (arith, nat_tests)

pub cons_same : {X : Type 0} (x y : X) (xs ys : List X) → x ∷ xs ≡ y ∷ ys → (x ≡ y) × (xs ≡ ys)
cons_same x y xs ys e = (cc, cc)

-- ---- at a place

pub read-left : (xs ys : List Term) (k : ℕ) → k < length xs → slice_index_or (xs ++ ys) k WildCard ≡ slice_index_or xs k WildCard
read-left [] ys k below = absurd (omega (arith, below))
read-left (x ∷ xs) ys zero below = refl
read-left (x ∷ xs) ys (suc k) below = read-left xs ys k (omega (arith, below))

pub read-right : (xs ys : List Term) (n k : ℕ) → n ≡ length xs → slice_index_or (xs ++ ys) (n + k) WildCard ≡ slice_index_or ys k WildCard
read-right [] ys n k e = ap (λ j. slice_index_or ys j WildCard) (omega arith)
read-right (x ∷ xs) ys zero k e = absurd (omega (arith, e))
read-right (x ∷ xs) ys (suc n) k e =
    let later : suc n + k ≡ suc (n + k) = omega arith in
    ap (λ j. slice_index_or (x ∷ (xs ++ ys)) j WildCard) later ∙ read-right xs ys n k (omega (arith, e))

pub read-past : (xs : List Term) (k : ℕ) → length xs ≤ k → slice_index_or xs k WildCard ≡ WildCard
read-past [] k past = refl
read-past (x ∷ xs) zero past = absurd (omega (arith, past))
read-past (x ∷ xs) (suc k) past = read-past xs k (omega (arith, past))

pub read-map : (f : Term → Term) (xs : List Term) (k : ℕ) → k < length xs
    → slice_index_or (map f xs) k WildCard ≡ f (slice_index_or xs k WildCard)
read-map f [] k below = absurd (omega (arith, below))
read-map f (x ∷ xs) zero below = refl
read-map f (x ∷ xs) (suc k) below = read-map f xs k (omega (arith, below))

-- lists with one item at a place, or both with none, are read as one there
pub read-one : (xs ys : List Term) (k : ℕ) → slice_get xs k ≡ slice_get ys k → slice_index_or xs k WildCard ≡ slice_index_or ys k WildCard
read-one xs ys k same =
    sym (unwrap_or-slice_get xs k WildCard) ∙ ap (λ (o : Option Term). unwrap_or o WildCard) same ∙ unwrap_or-slice_get ys k WildCard

pub read-objects : (objects : List ℕ) (k : ℕ) → k < length objects
    → slice_index_or (map Obj objects) k WildCard ≡ Obj (slice_index objects k)
read-objects [] k below = absurd (omega (arith, below))
read-objects (n ∷ objects) zero below = refl
read-objects (n ∷ objects) (suc k) below = read-objects objects k (omega (arith, below))

pub variables-have : (first count v : ℕ) → first ≤ v → v < first + count → Contains (variables_from first count) (Var v)
variables-have first zero v low high = absurd (omega (arith, low, high))
variables-have first (suc count) v low high = elim (here_or_later first v low) [
  | inl is ↦ subst (λ (n : ℕ). Contains (Var first ∷ variables_from (suc first) count) (Var n)) is
      (Contains-first (Var first) (variables_from (suc first) count))
  | inr later ↦ Contains-later (Var first) (variables_from (suc first) count) (Var v)
      (variables-have (suc first) count v later (omega (arith, high)))
]
  where
    here_or_later : (a b : ℕ) → a ≤ b → (a ≡ b) ⊎ (suc a ≤ b)
    here_or_later a b low = grind (arith, low)

-- ---- what is in a list

pub Contains-flat_map : {X Y : Type 0} (k : X → List Y) (xs : List X) (x : X) (y : Y) → Contains xs x → Contains (k x) y
    → Contains (flat_map k xs) y
Contains-flat_map k [] x y has here = absurd (Contains-none x has)
Contains-flat_map k (z ∷ xs) x y has here = elim (Contains-cases z xs x has) [
  | inl is ↦ Contains-append_left (k z) (flat_map k xs) y (subst (λ w. Contains (k w) y) (sym is) here)
  | inr later ↦ Contains-append_right (k z) (flat_map k xs) y (Contains-flat_map k xs x y later here)
]

pub Contains-from_flat_map : {X Y : Type 0} (k : X → List Y) (xs : List X) (y : Y) → Contains (flat_map k xs) y
    → (x : X) × Contains xs x × Contains (k x) y
Contains-from_flat_map k [] y has = absurd (Contains-none y has)
Contains-from_flat_map k (z ∷ xs) y has = elim (Contains-append_cases (k z) (flat_map k xs) y has) [
  | inl here ↦ (z, Contains-first z xs, here)
  | inr later ↦ let rest = Contains-from_flat_map k xs y later in (rest.0, Contains-later z xs rest.0 rest.1, rest.2)
]

-- what holds of all items of each list holds of all of them together
pub All-flat_map : {X Y : Type 0} (P : Y → Type 0) (k : X → List Y) (xs : List X) → ((x : X) → Contains xs x → All P (k x))
    → All P (flat_map k xs)
All-flat_map P k xs each =
    All-each P (flat_map k xs) (λ y has. let from = Contains-from_flat_map k xs y has in All-at P (k from.0) y (each from.0 from.1) from.2)

pub flat_map-mapped : {A B C D : Type 0} (f : A → List C) (g : A → B) (k : B → List D) (h : C → D) → ((x : A) → k (g x) ≡ map h (f x))
    → (xs : List A) → flat_map k (map g xs) ≡ map h (flat_map f xs)
flat_map-mapped f g k h each [] = refl
flat_map-mapped f g k h each (x ∷ xs) =
    ap (λ l. l ++ flat_map k (map g xs)) (each x) ∙ ap (λ l. map h (f x) ++ l) (flat_map-mapped f g k h each xs)
    ∙ sym (map-append h (f x) (flat_map f xs))

-- a map that leaves a list as it is leaves each of its items
pub item-left : {A : Type 0} (f : A → A) (xs : List A) → map f xs ≡ xs → (x : A) → Contains xs x → f x ≡ x
item-left f [] same x has = absurd (Contains-none x has)
item-left f (y ∷ xs) same x has =
    let both = cons_same (f y) y (map f xs) xs same in
    elim (Contains-cases y xs x has) [
      | inl is ↦ ap f (sym is) ∙ both.0 ∙ is
      | inr later ↦ item-left f xs both.1 x later
    ]

-- two lists that a map makes equal are equal, where it doesn't make different items equal
pub lists-one : {A B : Type 0} (f : A → B) (xs ys : List A) → ((x y : A) → Contains xs x → Contains ys y → f x ≡ f y → x ≡ y)
    → map f xs ≡ map f ys → xs ≡ ys
lists-one f [] [] one same = refl
lists-one f [] (y ∷ ys) one same = absurd (cc)
lists-one f (x ∷ xs) [] one same = absurd (cc)
lists-one f (x ∷ xs) (y ∷ ys) one same =
    let both = cons_same (f x) (f y) (map f xs) (map f ys) same in
    let head : x ≡ y = one x y (Contains-first x xs) (Contains-first y ys) both.0 in
    let rest = lists-one f xs ys (λ p q has there. one p q (Contains-later x xs p has) (Contains-later y ys q there)) both.1 in
    λ i. head i ∷ rest i
