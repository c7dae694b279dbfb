-- Each leaf of a proof has a source, each formula that was found has a first row.
use Rattle.std.specs.Prelude.{◌≡◌, ◌≢◌, ◌⊎◌, ◌<◌, ℕ, Option, None, Some, List, [], ◌∷◌, length, map, slice_get, All, Contains}
use Rattle.std.specs.List.{AllZip}
use Rattle.std.proofs.Common.{zero, suc, refl, sym, ap, ◌∙◌, subst, inl, inr, arith}
use Rattle.std.proofs.lemmas.List.Elements.{All-cons, All-nil}
use Rattle.px_base.specs.Answers.{some_same}
use Rattle.px_base.specs.ListLaws.{Contains-cases, Contains-first, Contains-later, Contains-none}
use Rattle.px_terms.specs.declared.atom.Atom.{Atom}
use Rattle.px_terms.specs.declared.instance.OpInst.{OpInst}
use Rattle.px_terms.specs.declared.problem.Problem.{Problem}
use Rattle.px_terms.specs.Operators.{adds}
use Rattle.px_proof.specs.declared.proof.Leaf.{Leaf}
use Rattle.px_proof.specs.Derivation.{Derivation, Derivations, none, also, derivations, fact, leaf_atoms, leaves_of}
use Rattle.px_proof.specs.Grafting.{grafted}
use Rattle.px_question.specs.Answers.{IsFirst}
use Rattle.px_question.specs.Settings.{setting_of}
use Rattle.px_question.proofs.DecidedLaws.{questions-are_decided}
use Rattle.px_question.proofs.ListedProofs.{atom_decided}
use Rattle.px_table.specs.Marks.{step_at}
use Rattle.px_gaps.specs.declared.question.Obligation.{Obligation}
use Rattle.px_ends.specs.Made.{IsFirstRow, IsSource, IsSourced}
use Rattle.px_support.specs.Asking.{IsFindable}
use Rattle.px_support.proofs.Lists.{step-within}
use Rattle.px_totality.proofs.FiniteLaws.{contains_or_not}

-- each item has something beside it
pub zip-there : {A B : Type 0} (R : A → B → Type 0) (as' : List A) → ((a : A) → Contains as' a → (b : B) × R a b)
    → (bs : List B) × AllZip R as' bs
zip-there R [] each = ([], tt)
zip-there R (a ∷ as') each =
    let here = each a (Contains-first a as') in
    let rest = zip-there R as' (λ x has. each x (Contains-later a as' x has)) in
    (here.0 ∷ rest.0, (here.1, rest.1))

-- ---- the first place of an atom

behind : (first : Atom) (atoms : List Atom) (atom : Atom) → ¬ (first ≡ atom) → Contains (first ∷ atoms) atom → Contains atoms atom
behind first atoms atom other has = elim (Contains-cases first atoms atom has) [ inl same ↦ absurd (other same) | inr later ↦ later ]

not-before : (first : Atom) (atoms : List Atom) (atom : Atom) → ¬ (first ≡ atom) → (i : ℕ)
    → ((j : ℕ) → j < i → slice_get atoms j ≢ Some atom) → (j : ℕ) → j < suc i → slice_get (first ∷ atoms) j ≢ Some atom
not-before first atoms atom other i never zero below at = other (some_same at)
not-before first atoms atom other i never (suc j) below at = never j (omega (arith, below)) at

first-place : (atoms : List Atom) (atom : Atom) → Contains atoms atom
    → (i : ℕ) × (slice_get atoms i ≡ Some atom) × ((j : ℕ) → j < i → slice_get atoms j ≢ Some atom)
first-place [] atom has = absurd (Contains-none atom has)
first-place (first ∷ atoms) atom has = elim (atom_decided first atom) [
  | inl same ↦ (0, ap Some same, λ j below. absurd (omega (arith, below)))
  | inr other ↦
      let rest = first-place atoms atom (behind first atoms atom other has) in
      (suc rest.0, rest.1, not-before first atoms atom other rest.0 rest.2)
]

-- ---- where an atom comes from

next-or-later : (n k : ℕ) → n < k → (k ≡ suc n) ⊎ (suc n < k)
next-or-later n k above = grind (arith, above)

none-some : {A : Type 0} (o : Option A) (a : A) → o ≡ None → ¬ (o ≡ Some a)
none-some o a e f = cc

module _ (problem : Problem) (made : List OpInst) (atom : Atom) where
  abbrev HasSource : Type 0
  HasSource = (leaf : Leaf) × (leaf.atom ≡ atom) × IsSource problem made leaf

  -- no step after that one adds it
  abbrev NoneAfter : ℕ → Type 0
  NoneAfter n = (k : ℕ) (inst : OpInst) → n < k → step_at made k ≡ Some inst → ¬ Contains (adds problem inst) atom

  added-here : (n : ℕ) (inst : OpInst) → step_at made (suc n) ≡ Some inst → Contains (adds problem inst) atom → NoneAfter (suc n) → HasSource
  added-here n inst at has never =
      let place = first-place (adds problem inst) atom has in (
        record { column = suc n; index = place.0; atom = atom },
        refl,
        record {
          initial = λ first. absurd (omega (arith, first));
          adder = λ later. (inst, at, place.1, place.2);
          last = never;
        },
      )

  step-or-not : (n : ℕ) → NoneAfter (suc n) → (NoneAfter n → HasSource) → HasSource
  step-or-not n never rest = by (step_at made (suc n)) refl
    where
      still : ((inst : OpInst) → step_at made (suc n) ≡ Some inst → ¬ Contains (adds problem inst) atom) → NoneAfter n
      still not_here k inst above at has = elim (next-or-later n k above) [
        | inl same ↦ not_here inst (subst (λ m. step_at made m ≡ Some inst) same at) has
        | inr later ↦ never k inst later at has
      ]

      here : (inst : OpInst) → step_at made (suc n) ≡ Some inst → HasSource
      here inst at = elim (contains_or_not atom_decided (adds problem inst) atom) [
        | inl has ↦ added-here n inst at has never
        | inr absent ↦ rest (still (λ other there has. absent
            (subst (λ (x : OpInst). Contains (adds problem x) atom) (some_same (sym there ∙ at)) has)))
      ]

      by : (o : Option OpInst) → step_at made (suc n) ≡ o → HasSource
      by None at = rest (still (λ inst there has. none-some (step_at made (suc n)) inst at there))
      by (Some inst) at = here inst at

  source-below : (n : ℕ) → NoneAfter n → HasSource
  source-below zero never = (
    record { column = 0; index = 0; atom = atom },
    refl,
    record { initial = λ first. refl; adder = λ later. absurd (omega (arith, later)); last = never },
  )
  source-below (suc n) never = step-or-not n never (λ still. source-below n still)

  pub source-there : HasSource
  source-there = source-below (length made) (λ k inst above at has. omega (arith, above, step-within made k inst at))

-- ---- proofs with sources

module _ (problem : Problem) (made : List OpInst) where
  sources-there : (old : List Leaf) → (leaves : List Leaf) × (leaf_atoms leaves ≡ leaf_atoms old) × All (IsSource problem made) leaves
  sources-there [] = ([], refl, All-nil (IsSource problem made))
  sources-there (leaf ∷ old) =
      let here = source-there problem made leaf.atom in
      let rest = sources-there old in
      (here.0 ∷ rest.0, (λ i. here.1 i ∷ rest.1 i), All-cons (IsSource problem made) here.0 rest.0 here.2 rest.2)

  pub sourced-there : (d : Derivation) → (new : Derivation) × IsSourced problem made d new
  sourced-there d =
      let leaves = sources-there (leaves_of d) in
      (grafted 0 (map (λ leaf. fact leaf) leaves.0) d, (leaves.0, leaves.1, leaves.2, refl))

  row-sourced : (ds : List Derivation) → (row : List Derivation) × AllZip (IsSourced problem made) ds row
  row-sourced ds = zip-there (IsSourced problem made) ds (λ d has. sourced-there d)

-- ---- first answers

abbrev items : Derivations → List Derivation
items none = []
items (also d ds) = d ∷ items ds

items-are : (ds : Derivations) → derivations (items ds) ≡ ds
items-are none = refl
items-are (also d ds) = ap (λ (x : Derivations). also d x) (items-are ds)

-- what is found has a first answer
pub first-there : (problem : Problem) (needed : Obligation) → IsFindable problem needed
    → (objects : List ℕ) × (ds : Derivations) × IsFirst (setting_of problem needed.facts) needed.formula needed.variable_count objects ds
first-there problem needed is =
    elim (questions-are_decided.proofs (setting_of problem needed.facts) needed.formula needed.variable_count) [
      | inl limited ↦ absurd (is.below limited.0 limited.1)
      | inr (inl first) ↦ (first.0, first.1, first.2)
      | inr (inr nothing) ↦ absurd (nothing.0 is.answer)
    ]

pub first-row : (problem : Problem) (made : List OpInst) (facts formula : List Atom) (variable_count : ℕ)
    → IsFindable problem (record { formula = formula; variable_count = variable_count; facts = facts })
    → (row : List Derivation) × IsFirstRow problem made facts formula variable_count row
first-row problem made facts formula variable_count is =
    let first = first-there problem (record { formula = formula; variable_count = variable_count; facts = facts }) is in
    let row = row-sourced problem made (items first.1) in (
      row.0,
      (
        first.0,
        items first.1,
        subst (IsFirst (setting_of problem facts) formula variable_count first.0) (sym (items-are first.1)) first.2,
        row.1,
      ),
    )
