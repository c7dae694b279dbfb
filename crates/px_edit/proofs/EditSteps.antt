-- Causes, limits and the parts of an edited table, as the calls have them.
use Rattle.std.specs.Prelude.{◌≡◌, ◌≢◌, ◌↔◌, ◌⊎◌, ◌+◌, ◌-◌, ◌<◌, ◌≤◌, ℕ, Bool, true, false, Some, List, [], ◌∷◌, ◌++◌, length, map, slice_get, slice_index_or, take, All, AllPairs, Any, Contains, IsTrue, not, ◌||◌}
use Rattle.std.proofs.Common.{zero, suc, refl, sym, ap, ◌∙◌, subst, inl, inr, arith, get_or}
use Rattle.px_base.specs.Answers.{both_answers, some_same}
use Rattle.px_base.specs.ListLaws.{All-each}
use Rattle.px_terms.specs.declared.problem.Problem.{Problem}
use Rattle.px_terms.specs.Operators.{adds}
use Rattle.px_proof.specs.PlaceLaws.{slice_get-read, slice_get-within}
use Rattle.px_table.specs.declared.table.Table.{Table}
use Rattle.px_edit.specs.Editing.{no_step}
use Rattle.px_edit.specs.EditCauses.{IsAddOf, IsBadPrefix, IsBadWantAt, IsEditable, IsFirstBadWant}
use Rattle.px_edit.proofs.Lists.{place_of, read-at}

-- what holds of no number below one, and not of that one, holds of none below the next
pub none-next : (P : ℕ → Type 0) (at : ℕ) → ((k : ℕ) → k < at → ¬ P k) → ¬ P at → (k : ℕ) → k < at + 1 → ¬ P k
none-next P at before here k below = elim (split k at below) [
  | inl less ↦ before k less
  | inr same ↦ λ p. here (subst P same p)
]
  where
    split : (k at : ℕ) → k < at + 1 → (k < at) ⊎ (k ≡ at)
    split k at below = grind (arith, below)

-- ---- pairs

pub taken-at : {X : Type 0} (xs : List X) (i j : ℕ) (d : X) → i < j → slice_index_or (take j xs) i d ≡ slice_index_or xs i d
taken-at [] i zero d below = absurd (omega (arith, below))
taken-at [] i (suc j) d below = refl
taken-at (x ∷ xs) i zero d below = absurd (omega (arith, below))
taken-at (x ∷ xs) zero (suc j) d below = refl
taken-at (x ∷ xs) (suc i) (suc j) d below = taken-at xs i j d (omega (arith, below))

pub taken-has : {X : Type 0} (xs : List X) (i j : ℕ) (x : X) → i < j → i < length xs → slice_index_or xs i x ≡ x → Contains (take j xs) x
taken-has [] i j x below within is = absurd (omega (arith, within))
taken-has (y ∷ xs) i zero x below within is = absurd (omega (arith, below))
taken-has (y ∷ xs) zero (suc j) x below within is = (0, omega arith, is)
taken-has (y ∷ xs) (suc i) (suc j) x below within is =
    let rest = taken-has xs i j x (omega (arith, below)) (omega (arith, within)) is in (suc rest.0, omega (arith, rest.1), rest.2)

read-default : {X : Type 0} (xs : List X) (k : ℕ) (d e : X) → k < length xs → slice_index_or xs k d ≡ slice_index_or xs k e
read-default [] k d e below = absurd (omega (arith, below))
read-default (x ∷ xs) zero d e below = refl
read-default (x ∷ xs) (suc k) d e below = read-default xs k d e (omega (arith, below))

-- a pair before that is the same, and none
pub stands-there : (wanted : List (ℕ × ℕ)) (earlier place : ℕ) → earlier < place → place < length wanted
    → slice_index_or wanted earlier (0, 0) ≡ slice_index_or wanted place (0, 0) → Contains (take place wanted) (slice_index_or wanted place (0, 0))
stands-there wanted earlier place before within same =
    let pair = slice_index_or wanted place (0, 0) in
    taken-has wanted earlier place pair before (omega (arith, before, within))
    (read-default wanted earlier pair (0, 0) (omega (arith, before, within)) ∙ same)

taken-below : {X : Type 0} (xs : List X) (j i : ℕ) → i < length (take j xs) → i < j
taken-below [] zero i below = absurd (omega (arith, below))
taken-below [] (suc j) i below = absurd (omega (arith, below))
taken-below (x ∷ xs) zero i below = absurd (omega (arith, below))
taken-below (x ∷ xs) (suc j) zero below = omega arith
taken-below (x ∷ xs) (suc j) (suc i) below = omega (arith, taken-below xs j i (omega (arith, below)))

pub stands-nowhere : (wanted : List (ℕ × ℕ)) (place : ℕ) → place < length wanted
    → ((k : ℕ) → k < place → ¬ (slice_index_or wanted k (0, 0) ≡ slice_index_or wanted place (0, 0)))
    → ¬ Contains (take place wanted) (slice_index_or wanted place (0, 0))
stands-nowhere wanted place within none has =
    let before : has.0 < place = taken-below wanted place has.0 has.1 in
    let pair = slice_index_or wanted place (0, 0) in
    none has.0 before
    (read-default wanted has.0 (0, 0) pair (omega (arith, before, within)) ∙ sym (taken-at wanted has.0 place pair before) ∙ has.2)

less_or_not : (a b : ℕ) → (a < b) ⊎ (b ≤ a)
less_or_not a b = grind arith

module _ (problem : Problem) (table : Table) (prefix : ℕ) (wanted : List (ℕ × ℕ)) where
  -- a pair is an add or not
  add-decided : (pair : ℕ × ℕ) → IsAddOf problem table prefix pair ⊎ (¬ IsAddOf problem table prefix pair)
  add-decided pair = elim (less_or_not 0 pair.0) [
    | inr none ↦ inr (λ is. omega (arith, is.counted, none))
    | inl some ↦ elim (less_or_not prefix pair.0) [
      | inl past ↦ inr (λ is. omega (arith, is.within, past))
      | inr inside ↦ elim (less_or_not pair.1 (length (adds problem (slice_index_or table.steps (pair.0 - 1) no_step)))) [
        | inl has ↦ inl (record { counted = omega (arith, some); within = inside; has = has })
        | inr outside ↦ inr (λ is. omega (arith, is.has, outside))
      ]
    ]
  ]

  -- where none is bad, all may be asked
  pub all-editable : ((place : ℕ) → ¬ IsBadWantAt problem table prefix wanted place)
      → 1 ≤ prefix → prefix ≤ length table.steps → IsEditable problem table prefix wanted
  all-editable none least most = record {
    least = least;
    most = most;
    adds_are = All-each (IsAddOf problem table prefix) wanted (λ pair has.
        let found = place_of wanted pair has in
        elim (add-decided pair) [
          | inl is ↦ is
          | inr not_one ↦ absurd (none found.0 (pair, found.1, inl not_one))
        ]);
    once = λ i j d lt within same.
        let at = slice_get-read wanted j d within in
        none j (
          slice_index_or wanted j d,
          at,
          inr (subst (Contains (take j wanted)) same
              (taken-has wanted i j (slice_index_or wanted i d) lt (omega (arith, lt, within))
              (read-default wanted i (slice_index_or wanted i d) d (omega (arith, lt, within))))),
        );
  }

  -- what may be asked has no bad pair
  pub editable-none : IsEditable problem table prefix wanted → (place : ℕ) → ¬ IsBadWantAt problem table prefix wanted place
  editable-none may place (pair, at, inl not_one) =
      not_one (subst (IsAddOf problem table prefix) (read-at wanted place pair pair at) (may.adds_are place pair (slice_get-within wanted place pair at)))
  editable-none may place (pair, at, inr has) =
      let inside : has.0 < place = taken-below wanted place has.0 has.1 in
      may.once has.0 place pair inside (slice_get-within wanted place pair at)
      (sym (taken-at wanted has.0 place pair inside) ∙ has.2 ∙ sym (read-at wanted place pair pair at))

  pub first-is_one : (a b : ℕ) → IsFirstBadWant problem table prefix wanted a → IsFirstBadWant problem table prefix wanted b → a ≡ b
  first-is_one a b one other = elim (order a b) [
    | inl less ↦ absurd (other.first a less one.bad)
    | inr (inl more) ↦ absurd (one.first b more other.bad)
    | inr (inr same) ↦ same
  ]
    where
      order : (a b : ℕ) → (a < b) ⊎ ((b < a) ⊎ (a ≡ b))
      order a b = grind arith

  -- a place past the end has no pair
  pub none-past : (at : ℕ) → length wanted ≤ at → ((k : ℕ) → k < at → ¬ IsBadWantAt problem table prefix wanted k) → (place : ℕ)
      → ¬ IsBadWantAt problem table prefix wanted place
  none-past at past none place bad =
      none place (omega (arith, past, slice_get-within wanted place bad.0 bad.1)) bad
