-- The last variable of a goal, and what becomes of the goal under objects.
use Rattle.std.specs.Prelude.{◌≡◌, ◌≤◌, ◌<◌, ◌+◌, ◌-◌, ◌==◌, ℕ, not, max, fold, List, [], ◌∷◌, ◌++◌, length, map, flat_map, filter, All, Contains}
use Rattle.std.specs.List.{filter_map, range_with_len}
use Rattle.std.proofs.Common.{zero, suc, refl, sym, ap, ◌∙◌, subst, arith, inl, inr}
use Rattle.std.proofs.lemmas.List.{length-map}
use Rattle.std.proofs.lemmas.List.Elements.{All-head, All-map, All-tail}
use Rattle.std.proofs.lemmas.List.FromFn.{get_or-range_with_len, length-range_with_len}
use Rattle.px_base.specs.ListLaws.{All-at, Contains-cases, Contains-filter, Contains-first, Contains-later, Contains-none}
use Rattle.px_terms.specs.declared.atom.Atom.{Atom}
use Rattle.px_terms.specs.declared.problem.Problem.{Problem}
use Rattle.px_terms.specs.declared.term.Term.{Term}
use Rattle.px_terms.specs.declared.term.Term.TheVariants.{Obj, Var, Any as WildCard}
use Rattle.px_terms.specs.Language.{substitute}
use Rattle.px_terms.specs.Substitution.{substitute_atom}
use Rattle.px_terms.specs.Validity.{IsAtomOf, IsTermOf}
use Rattle.px_table.specs.Supports.{variables}
use Rattle.px_script.specs.Ranges.{AreNumbered, first_occurrences, goal_place, variable_in}
use Rattle.px_general.proofs.Reading.{All-flat_map, flat_map-mapped, less_or_not, read-left, read-objects, read-right}
use Rattle.px_replay.proofs.GoalSteps.{read-variable}

-- the arguments of a goal's atoms
abbrev pub arguments_of : List Atom → List Term
arguments_of goal = flat_map (λ (atom : Atom). atom.args) goal

-- the last of the goal's variables among them
abbrev pub last_of : ℕ → List Term → ℕ
last_of params terms = fold max 0 (map (goal_place params) terms)

-- ---- the greatest of some numbers

most-from : (n m : ℕ) (xs : List ℕ) → m ≤ n → All (λ x. x ≤ n) xs → fold max m xs ≤ n
most-from n m [] low all = low
most-from n m (x ∷ xs) low all =
    let here = All-head (λ y. y ≤ n) x xs all in
    most-from n (max m x) xs (omega (arith, low, here)) (All-tail (λ y. y ≤ n) x xs all)

least-from : (m : ℕ) (xs : List ℕ) → m ≤ fold max m xs
least-from m [] = omega arith
least-from m (x ∷ xs) = let later = least-from (max m x) xs in omega (arith, later)

reached-from : (m n : ℕ) (xs : List ℕ) → Contains xs n → n ≤ fold max m xs
reached-from m n [] has = absurd (Contains-none n has)
reached-from m n (x ∷ xs) has = elim (Contains-cases x xs n has) [
  | inl same ↦ let later = least-from (max m x) xs in omega (arith, later, same)
  | inr later ↦ reached-from (max m x) n xs later
]

mapped : {A B : Type 0} (f : A → B) (xs : List A) (x : A) → Contains xs x → Contains (map f xs) (f x)
mapped f [] x has = absurd (Contains-none x has)
mapped f (y ∷ xs) x has = elim (Contains-cases y xs x has) [
  | inl same ↦ subst (λ z. Contains (f y ∷ map f xs) (f z)) same (Contains-first (f y) (map f xs))
  | inr later ↦ Contains-later (f y) (map f xs) (f x) (mapped f xs x later)
]

-- ---- the terms of a goal

abbrev AreTerms : Problem → ℕ → List Term → Type 0
AreTerms problem variable_count terms = All (IsTermOf problem variable_count) terms

-- the arguments of atoms of the problem are terms of it
pub are-terms : (problem : Problem) (variable_count : ℕ) (goal : List Atom) → All (IsAtomOf problem variable_count) goal → AreTerms problem variable_count (arguments_of goal)
are-terms problem variable_count goal of =
    All-flat_map (IsTermOf problem variable_count) (λ (atom : Atom). atom.args) goal
    (λ atom has. (All-at (IsAtomOf problem variable_count) goal atom of has).1)

place-low : (problem : Problem) (params goal_variable_count : ℕ) (t : Term) → IsTermOf problem (params + goal_variable_count) t → goal_place params t ≤ goal_variable_count
place-low problem params goal_variable_count (Obj n) of = omega arith
place-low problem params goal_variable_count (Var v) of = omega (arith, of)
place-low problem params goal_variable_count WildCard of = omega arith

-- the last variable is one of the goal's
pub last-low : (problem : Problem) (params goal_variable_count : ℕ) (terms : List Term) → AreTerms problem (params + goal_variable_count) terms
    → last_of params terms ≤ goal_variable_count
last-low problem params goal_variable_count terms of =
    most-from goal_variable_count 0 (map (goal_place params) terms) (omega arith)
    (All-map (λ n. n ≤ goal_variable_count) (goal_place params) terms
    (λ k d below. place-low problem params goal_variable_count _ (of k d below)))

-- without objects and variables there are no terms
pub no-terms : (problem : Problem) → problem.objects ≡ 0 → (terms : List Term) → AreTerms problem 0 terms → terms ≡ []
no-terms problem none [] of = refl
no-terms problem none (t ∷ terms) of = absurd (never t (All-head (IsTermOf problem 0) t terms of))
  where
    never : (t : Term) → ¬ IsTermOf problem 0 t
    never (Obj n) below = omega (arith, below, none)
    never (Var v) below = omega (arith, below)
    never WildCard below = below

-- ---- goals whose variables are numbered as they occur

occurs-first : (vs : List ℕ) (v : ℕ) → Contains (first_occurrences vs) v → Contains vs v
occurs-first [] v has = has
occurs-first (n ∷ ns) v has = elim (Contains-cases n (filter (λ m. not (m == n)) (first_occurrences ns)) v has) [
  | inl same ↦ subst (Contains (n ∷ ns)) same (Contains-first n ns)
  | inr later ↦ Contains-later n ns v
      (occurs-first ns v ((Contains-filter (λ m. not (m == n)) (first_occurrences ns) v).0 later).0)
]

occurs : (terms : List Term) (v : ℕ) → Contains (filter_map variable_in terms) v → Contains terms (Var v)
occurs [] v has = absurd (Contains-none v has)
occurs (Obj n ∷ terms) v has = Contains-later (Obj n) terms (Var v) (occurs terms v has)
occurs (WildCard ∷ terms) v has = Contains-later WildCard terms (Var v) (occurs terms v has)
occurs (Var w ∷ terms) v has = elim (Contains-cases w (filter_map variable_in terms) v has) [
  | inl same ↦ subst (λ (n : ℕ). Contains (Var w ∷ terms) (Var n)) same (Contains-first (Var w) terms)
  | inr later ↦ Contains-later (Var w) terms (Var v) (occurs terms v later)
]

in-range : (count v : ℕ) → v < count → Contains (range_with_len 0 count) v
in-range count v below =
    let read = get_or-range_with_len 0 count v v below in
    (v, omega (arith, below, length-range_with_len 0 count), read ∙ omega arith)

-- without parameters
last-within : (problem : Problem) (variable_count : ℕ) (terms : List Term) → AreTerms problem variable_count terms → last_of 0 terms ≤ variable_count
last-within problem variable_count terms of =
    let same : variable_count ≡ 0 + variable_count = omega arith in
    last-low problem 0 variable_count terms (subst (λ (n : ℕ). AreTerms problem n terms) same of)

-- the last of as many variables as there are is the last that occurs
pub numbered-last : (problem : Problem) (variable_count : ℕ) (goal : List Atom) → All (IsAtomOf problem variable_count) goal → AreNumbered variable_count goal
    → variable_count ≡ last_of 0 (arguments_of goal)
numbered-last problem zero goal of numbered =
    let low = last-within problem 0 (arguments_of goal) (are-terms problem 0 goal of) in omega (arith, low)
numbered-last problem (suc variable_count) goal of numbered =
    let terms = arguments_of goal in
    let low = last-within problem (suc variable_count) terms (are-terms problem (suc variable_count) goal of) in
    let first = subst (λ (vs : List ℕ). Contains vs variable_count) (sym numbered) (in-range (suc variable_count) variable_count (omega arith)) in
    let there = occurs terms variable_count (occurs-first (filter_map variable_in terms) variable_count first) in
    let reached = reached-from 0 (variable_count + 1 - 0) (map (goal_place 0) terms) (mapped (goal_place 0) terms (Var variable_count) there) in
    omega (arith, low, reached)

-- ---- under objects

module _ (problem : Problem) (params goal_variable_count : ℕ) (objects : List ℕ) (count : length objects ≡ params) where
  -- the objects for the parameters, and the goal's own variables numbered from 0
  abbrev pub chosen : List Term
  chosen = map Obj objects ++ variables goal_variable_count

  objects-count : params ≡ length (map Obj objects)
  objects-count = sym (length-map objects Obj ∙ count)

  place-read : (t : Term) → IsTermOf problem (params + goal_variable_count) t → goal_place 0 (substitute chosen t) ≡ goal_place params t
  place-read (Obj n) of = refl
  place-read WildCard of = refl
  place-read (Var v) of = elim (less_or_not v params) [
    | inl inside ↦
        let read = read-left (map Obj objects) (variables goal_variable_count) v (omega (arith, inside, objects-count))
        ∙ read-objects objects v (omega (arith, inside, count)) in
        ap (goal_place 0) read ∙ omega (arith, inside)
    | inr outside ↦
        let back : params + (v - params) ≡ v = omega (arith, outside) in
        let read = ap (λ k. substitute chosen (Var k)) (sym back)
        ∙ read-right (map Obj objects) (variables goal_variable_count) params (v - params) objects-count
        ∙ read-variable 0 goal_variable_count (v - params) (omega (arith, outside, of)) in
        ap (goal_place 0) read ∙ omega (arith, outside)
  ]

  places-read : (terms : List Term) → AreTerms problem (params + goal_variable_count) terms
      → map (goal_place 0) (map (substitute chosen) terms) ≡ map (goal_place params) terms
  places-read [] of = refl
  places-read (t ∷ terms) of =
      let here = place-read t (All-head (IsTermOf problem (params + goal_variable_count)) t terms of) in
      let rest = places-read terms (All-tail (IsTermOf problem (params + goal_variable_count)) t terms of) in
      λ i. here i ∷ rest i

  arguments-under : (goal : List Atom) → arguments_of (map (substitute_atom chosen) goal) ≡ map (substitute chosen) (arguments_of goal)
  arguments-under goal =
      flat_map-mapped (λ (atom : Atom). atom.args) (substitute_atom chosen) (λ (atom : Atom). atom.args) (substitute chosen)
      (λ atom. refl) goal

  -- the last variable is the same
  pub last-under : (goal : List Atom) → All (IsAtomOf problem (params + goal_variable_count)) goal
      → last_of 0 (arguments_of (map (substitute_atom chosen) goal)) ≡ last_of params (arguments_of goal)
  last-under goal of =
      ap (λ (terms : List Term). last_of 0 terms) (arguments-under goal)
      ∙ ap (fold max 0) (places-read (arguments_of goal) (are-terms problem (params + goal_variable_count) goal of))

  -- and there are no more arguments
  pub none-under : (goal : List Atom) → arguments_of (map (substitute_atom chosen) goal) ≡ [] → arguments_of goal ≡ []
  none-under goal none = by (arguments_of goal) (sym (arguments-under goal) ∙ none)
    where
      by : (terms : List Term) → map (substitute chosen) terms ≡ [] → terms ≡ []
      by [] e = refl
      by (t ∷ terms) e = absurd (cc)

  -- and no fewer
  pub some-under : (goal : List Atom) → arguments_of goal ≡ [] → arguments_of (map (substitute_atom chosen) goal) ≡ []
  some-under goal none = arguments-under goal ∙ ap (map (substitute chosen)) none
