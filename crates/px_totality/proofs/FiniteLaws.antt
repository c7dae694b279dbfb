-- Which kinds of things are finite.
use Rattle.std.specs.Prelude.{◌≡◌, ◌⊎◌, ◌<◌, ℕ, List, [], ◌∷◌, ◌++◌, map, length, All, Contains}
use Rattle.std.specs.List.{flat_map}
use Rattle.std.proofs.Common.{zero, suc, sym, subst, inl, inr, arith}
use Rattle.std.proofs.lemmas.List.Concat.{flat_map-cons}
use Rattle.std.proofs.lemmas.List.Elements.{All-head, All-tail, Contains-append_left, Contains-append_right}
use Rattle.px_base.specs.ListLaws.{Contains-cases, Contains-first, Contains-later, Contains-none}
use Rattle.px_totality.specs.Finite.{IsFinite}

Contains-under : {A B : Type 0} (f : A → B) (xs : List A) (a : A) → Contains xs a → Contains (map f xs) (f a)
Contains-under f [] a has = absurd (Contains-none a has)
Contains-under {B = B} f (x ∷ xs) a has = elim (Contains-cases x xs a has) [
  | inl same ↦ subst (λ y. Contains (map f (x ∷ xs)) (f y)) same (Contains-first (f x) (map f xs))
  | inr later ↦ Contains-later (f x) (map f xs) (f a) (Contains-under f xs a later)
]

Contains-flat : {A B : Type 0} (f : A → List B) (xs : List A) (a : A) (b : B) → Contains xs a → Contains (f a) b
    → Contains (flat_map f xs) b
Contains-flat f [] a b has in_f = absurd (Contains-none a has)
Contains-flat f (x ∷ xs) a b has in_f = subst (λ ys. Contains ys b) (sym (flat_map-cons f x xs)) (elim (Contains-cases x xs a has) [
  | inl same ↦ Contains-append_left (f x) (flat_map f xs) b (subst (λ y. Contains (f y) b) (sym same) in_f)
  | inr later ↦ Contains-append_right (f x) (flat_map f xs) b (Contains-flat f xs a b later in_f)
])

pub contains_or_not : {A : Type 0} → ((a b : A) → (a ≡ b) ⊎ (¬ (a ≡ b))) → (as' : List A) (a : A) → Contains as' a ⊎ (¬ Contains as' a)
contains_or_not same [] a = inr (Contains-none a)
contains_or_not same (b ∷ as') a = elim (same b a) [
  | inl is ↦ inl (subst (Contains (b ∷ as')) is (Contains-first b as'))
  | inr other ↦ elim (contains_or_not same as' a) [
    | inl later ↦ inl (Contains-later b as' a later)
    | inr absent ↦ inr (λ has. elim (Contains-cases b as' a has) [ inl is ↦ other is | inr later ↦ absent later ])
  ]
]

last_or_less : (n k : ℕ) → k < suc n → (n ≡ k) ⊎ (k < n)
last_or_less n k below = grind (arith, below)

pub finite_below : (n : ℕ) → IsFinite (λ k. k < n)
finite_below zero = record { members = []; all = λ k below. absurd (omega (arith, below)) }
finite_below (suc n) = record {
  members = n ∷ (finite_below n).members;
  all = λ k below. elim (last_or_less n k below) [
    | inl same ↦ subst (Contains (n ∷ (finite_below n).members)) same (Contains-first n (finite_below n).members)
    | inr less ↦ Contains-later n (finite_below n).members k ((finite_below n).all k less)
  ];
}

pub finite_weaker : {A : Type 0} (P Q : A → Type 0) → ((a : A) → P a → Q a) → IsFinite Q → IsFinite P
finite_weaker P Q weaker q = record { members = q.members; all = λ a p. q.all a (weaker a p) }

pub finite_one : {A : Type 0} (a : A) → IsFinite (λ b. a ≡ b)
finite_one a = record { members = a ∷ []; all = λ b same. subst (Contains (a ∷ [])) same (Contains-first a []) }

module _ {A B : Type 0} where
  -- what comes of some finite kind
  pub finite_image : (P : A → Type 0) (f : A → B) → IsFinite P → IsFinite (λ (b : B). (a : A) × P a × (f a ≡ b))
  finite_image P f p = record {
    members = map f p.members;
    all = λ b is. subst (Contains (map f p.members)) is.2 (Contains-under f p.members is.0 (p.all is.0 is.1));
  }

  -- finitely many for each of finitely many
  pub finite_each : (P : A → Type 0) (Q : A → B → Type 0) → IsFinite P → ((a : A) → IsFinite (Q a))
      → IsFinite (λ (b : B). (a : A) × P a × Q a b)
  finite_each P Q p q = record {
    members = flat_map (λ a. (q a).members) p.members;
    all = λ b is. Contains-flat (λ a. (q a).members) p.members is.0 b (p.all is.0 is.1) ((q is.0).all b is.2);
  }

module _ {A : Type 0} (P Q : A → Type 0) where
  pub finite_either : IsFinite P → IsFinite Q → IsFinite (λ (a : A). P a ⊎ Q a)
  finite_either p q = record {
    members = p.members ++ q.members;
    all = λ a is. elim is [
      | inl left ↦ Contains-append_left p.members q.members a (p.all a left)
      | inr right ↦ Contains-append_right p.members q.members a (q.all a right)
    ];
  }

-- lists of a length whose items are of a finite kind
module _ {A : Type 0} (P : A → Type 0) (finite : IsFinite P) where
  abbrev lists_of : ℕ → List (List A)
  lists_of zero = [] ∷ []
  lists_of (suc n) = flat_map (λ a. map (λ as'. a ∷ as') (lists_of n)) finite.members

  in_lists : (n : ℕ) (xs : List A) → All P xs → length xs ≡ n → Contains (lists_of n) xs
  in_lists zero [] all count = Contains-first [] []
  in_lists zero (x ∷ xs) all count = absurd (omega (arith, count))
  in_lists (suc n) [] all count = absurd (omega (arith, count))
  in_lists (suc n) (x ∷ xs) all count =
      let rest = in_lists n xs (All-tail P x xs all) (omega (arith, count)) in
      Contains-flat (λ a. map (λ as'. a ∷ as') (lists_of n)) finite.members x (x ∷ xs) (finite.all x (All-head P x xs all))
      (Contains-under (λ as'. x ∷ as') (lists_of n) xs rest)

  pub finite_lists : (n : ℕ) → IsFinite (λ (xs : List A). All P xs × (length xs ≡ n))
  finite_lists n = record { members = lists_of n; all = λ xs is. in_lists n xs is.0 is.1 }
