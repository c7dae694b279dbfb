-- Choices of objects that fit.
use Rattle.std.proofs.Common.{◌≡◌, ◌∙◌, ◌+◌, ℕ, zero, suc, ◌<◌, ◌⊎◌, List, [], ◌∷◌, length, map, refl, ap, sym, subst, inl, inr, arith}
use Rattle.std.specs.Prelude.{◌↔◌, slice_index, slice_index_or}
use Rattle.std.proofs.lemmas.List.{length-map}
use Rattle.px_base.proofs.Loops.{level_or_below}
use Rattle.px_prover.specs.Patterns.{object_under}
use Rattle.px_terms.specs.Language.{object_of}
use Rattle.px_terms.specs.Sorts.{FitsSort, ObjectsFit}
use Rattle.px_terms.specs.declared.atom.Atom.{Atom}
use Rattle.px_terms.specs.declared.term.Term.{Term}
use Rattle.px_terms.specs.declared.term.Term.TheVariants.{Var, Any as Wild}
use Rattle.px_table.specs.WellSorted.{first_sort, paired}
use Rattle.px_table.specs.WellSortedLaws.{first_sort-stands, paired-place}
use Rattle.px_gaps.specs.Bindings.{CanAvoid, ExtendsTerms, IsOpenAs, IsOpenBefore}
use Rattle.px_gaps.specs.Closings.{OneOf}
use Rattle.px_gaps.proofs.Choosing.{term-at}

-- ---- places

mapped-at : (f : Term → ℕ) (terms : List Term) (k : ℕ) → k < length terms → slice_index (map f terms) k ≡ f (slice_index_or terms k Wild)
mapped-at f [] k within = absurd (omega (arith, within))
mapped-at f (t ∷ terms) zero within = refl
mapped-at f (t ∷ terms) (suc k) within = mapped-at f terms k (omega (arith, within))

-- where the objects for the terms fit, each fits the sort of its place
pub place-fits : (sorts wanted values : List ℕ) (terms : List Term) (k : ℕ) → k < length terms
    → ObjectsFit sorts wanted (map (object_under values) terms)
    → FitsSort sorts (slice_index wanted k) (object_under values (slice_index_or terms k Wild))
place-fits sorts wanted values terms k within fits =
    subst (FitsSort sorts (slice_index wanted k)) (mapped-at (object_under values) terms k within)
    (fits k (omega (arith, within, length-map terms (object_under values))))

-- so does the object of a variable that stands there
pub variable-fits : (sorts wanted values : List ℕ) (terms : List Term) (k v : ℕ) → k < length terms → slice_index_or terms k Wild ≡ Var v
    → v < length values → ObjectsFit sorts wanted (map (object_under values) terms)
    → FitsSort sorts (slice_index wanted k) (slice_index values v)
variable-fits sorts wanted values terms k v within is below fits =
    subst (FitsSort sorts (slice_index wanted k)) (ap (object_under values) is ∙ ap object_of (term-at values v below))
    (place-fits sorts wanted values terms k within fits)

-- and it fits the first sort of the places at which the variable stands
pub first-fits : (sorts wanted values : List ℕ) (terms : List Term) (v : ℕ) → v < length values
    → ObjectsFit sorts wanted (map (object_under values) terms)
    → FitsSort sorts (first_sort (paired wanted terms) v) (slice_index values v)
first-fits sorts wanted values terms v below fits = λ some.
    let first = first_sort (paired wanted terms) v in
    let found = paired-place wanted terms first (Var v) (first_sort-stands (paired wanted terms) v some) in
    subst (λ (sort : ℕ). FitsSort sorts sort (slice_index values v)) found.3
    (variable-fits sorts wanted values terms found.0 v found.1 found.2 below fits) some

-- ---- what is left out

-- what brings nothing by itself brings nothing that fits
pub none-fits : {Old Here Fits : Type 0} → Old ↔ (Old ⊎ Here) → Old ↔ (Old ⊎ (Here × Fits))
none-fits is = (λ old. inl old, λ h. elim h [ inl old ↦ old | inr both ↦ is.1 (inr both.0) ])

-- what is the same is so beside what fits
pub fit-same : {A B Fits : Type 0} → A ↔ B → (A × Fits) ↔ (B × Fits)
fit-same same = (λ both. (same.0 both.0, both.1), λ both. (same.1 both.0, both.1))

pub fit-split : {A B C Fits : Type 0} → A ↔ (B ⊎ C) → (A × Fits) ↔ ((B × Fits) ⊎ (C × Fits))
fit-split split = (
  λ both. elim (split.0 both.0) [ inl b ↦ inl (b, both.1) | inr c ↦ inr (c, both.1) ],
  λ h. elim h [ inl b ↦ (split.1 (inl b.0), b.1) | inr c ↦ (split.1 (inr c.0), c.1) ],
)

-- where the object doesn't fit the variable, nothing with it is left
pub passed-over : (limit : ℕ) (terms : List Term) (atoms taken : List Atom) (sorts wanted : List ℕ) (targets : List Term)
    (v sort object : ℕ) → v < length terms
    → ((values : List ℕ) → v < length values → ObjectsFit sorts wanted (map (object_under values) targets)
    → FitsSort sorts sort (slice_index values v))
    → ¬ FitsSort sorts sort object → (objects : List ℕ)
    → (IsOpenBefore limit terms atoms taken (λ values. map (object_under values) targets) v object objects
    × ObjectsFit sorts wanted objects)
    ↔ (IsOpenBefore limit terms atoms taken (λ values. map (object_under values) targets) v (object + 1) objects
    × ObjectsFit sorts wanted objects)
passed-over limit terms atoms taken sorts wanted targets v sort object within has_sort unfit objects = (
  λ both. let b = both.0 in ((b.0, b.1, omega (arith, b.2), b.3), both.1),
  λ both.
      let b = both.0 in
      elim (level_or_below (slice_index b.0 v) object b.2) [
        | inl less ↦ ((b.0, b.1, less, b.3), both.1)
        | inr level ↦
            let here = has_sort b.0 (omega (arith, within, b.1.extends.count)) (subst (ObjectsFit sorts wanted) (sym b.3) both.1) in
            absurd (unfit (subst (FitsSort sorts sort) level here))
      ],
)

-- where the values are the same for all, what is made of them is open, if something is
pub open-is : {X : Type 0} (limit : ℕ) (terms : List Term) (atoms taken : List Atom) (made : List ℕ → X) (here : X)
    → ((values : List ℕ) → ExtendsTerms limit terms values → made values ≡ here) → CanAvoid limit terms atoms taken → (x : X)
    → (here ≡ x) ↔ IsOpenAs limit terms atoms taken made x
open-is limit terms atoms taken made here fixed can x =
    (λ same. (can.0, can.1, fixed can.0 can.1.extends ∙ same), λ is. sym (fixed is.0 is.1.extends) ∙ is.2)

-- one of the items is chosen and fits
pub one-fits : {X Fits : Type 0} (P : X → Type 0) (xs : List X) → OneOf xs (λ x. P x × Fits) ↔ (OneOf xs P × Fits)
one-fits P xs = (λ one. ((one.0, one.1, one.2.0), one.2.1), λ both. (both.0.0, both.0.1, (both.0.2, both.1)))
