-- Steps of the search for the sort of a parameter: over the places of a step, and over steps.
use Rattle.std.proofs.Common.{◌≡◌, ◌≢◌, ℕ, zero, suc, ◌+◌, ◌<◌, Bool, true, false, ◌&&◌, List, [], ◌∷◌, ◌++◌, length, drop, get_or, refl, sym, ap, ◌∙◌, arith, add-one, if◌then◌else◌}
use Rattle.std.specs.Prelude.{◌==◌, not, slice_index, slice_index_or}
use borrow.Author.Tests.{eqb-true}
use Rattle.px_terms.specs.declared.instance.OpInst.{OpInst}
use Rattle.px_terms.specs.declared.problem.Problem.{Problem}
use Rattle.px_terms.specs.declared.term.Term.{Term}
use Rattle.px_terms.specs.declared.term.Term.TheVariants.{Var, Any}
use Rattle.px_terms.specs.Operators.{schema_of}
use Rattle.px_terms.specs.Order.{term_eq}
use Rattle.px_table.specs.WellSorted.{first_sort, paired, sort_places}

no-pairs : (wanted : List ℕ) (args : List Term) → wanted ≡ [] → paired wanted args ≡ []
no-pairs wanted args is = ap (λ (l : List ℕ). paired l args) is

nothing-left : {X : Type 0} (k : ℕ) → drop {A = X} k [] ≡ []
nothing-left zero = refl
nothing-left (suc k) = refl

never : (b : Bool) → (b && false) ≡ false
never true = refl
never false = refl

-- the first sort from a place on: that of the place, if the parameter stands there and the place has a sort, and else that of the rest
first-from : (wanted : List ℕ) (args : List Term) (k v : ℕ) → k < length args
    → first_sort (paired (drop k wanted) (drop k args)) v
    ≡ (if term_eq (slice_index_or args k Any) (Var v) && not (slice_index wanted k == 0) then slice_index wanted k else
    first_sort (paired (drop (suc k) wanted) (drop (suc k) args)) v)
first-from wanted [] k v below = absurd (omega (arith, below))
first-from [] (t ∷ args) k v below =
    ap (λ (l : List ℕ). first_sort (paired l (drop k (t ∷ args))) v) (nothing-left k)
    ∙ sym (ap (λ (b : Bool). if b then 0 else 0) (never (term_eq (slice_index_or (t ∷ args) k Any) (Var v))))
first-from (w ∷ wanted) (t ∷ args) zero v below = refl
first-from (w ∷ wanted) (t ∷ args) (suc k) v below = first-from wanted args k v (omega (arith, below))

module _ (wanted : List ℕ) (args : List Term) (k v : ℕ) (below : k < length args) (test : Bool)
    (tested : test ≡ (term_eq (slice_index_or args k Any) (Var v) && not (slice_index wanted k == 0)))
    (so_far : first_sort (paired (drop k wanted) (drop k args)) v ≡ first_sort (paired wanted args) v) where
  there : first_sort (paired wanted args) v
      ≡ (if test then slice_index wanted k else first_sort (paired (drop (suc k) wanted) (drop (suc k) args)) v)
  there =
      sym so_far ∙ first-from wanted args k v below
      ∙ ap (λ (b : Bool). if b then slice_index wanted k else first_sort (paired (drop (suc k) wanted) (drop (suc k) args)) v) (sym tested)

  pub sort-here : test ≡ true → slice_index wanted k ≡ first_sort (paired wanted args) v
  sort-here yes_here =
      sym (there ∙ ap (λ (b : Bool). if b then slice_index wanted k else first_sort (paired (drop (suc k) wanted) (drop (suc k) args)) v)
      yes_here)

  pub sort-later : test ≡ false → first_sort (paired (drop (k + 1) wanted) (drop (k + 1) args)) v ≡ first_sort (paired wanted args) v
  sort-later not_here =
      rw (add-one k)
      (sym (there ∙ ap (λ (b : Bool). if b then slice_index wanted k else first_sort (paired (drop (suc k) wanted) (drop (suc k) args)) v)
      not_here))

-- at the end nothing is left
pub no-sort : (wanted : List ℕ) (args : List Term) (k v : ℕ) → drop k args ≡ [] → first_sort (paired (drop k wanted) (drop k args)) v ≡ 0
no-sort wanted args k v end =
    ap (λ (l : List Term). first_sort (paired (drop k wanted) l) v) end ∙ none (drop k wanted)
  where
    none : (ws : List ℕ) → first_sort (paired ws []) v ≡ 0
    none [] = refl
    none (w ∷ ws) = refl

-- ---- steps

first-append : (xs ys : List (ℕ × Term)) (v : ℕ)
    → first_sort (xs ++ ys) v ≡ (if first_sort xs v == 0 then first_sort ys v else first_sort xs v)
first-append [] ys v = refl
first-append (place ∷ xs) ys v =
    elim (term_eq place.1 (Var v)) as (λ b. (if b && not (place.0 == 0) then place.0 else first_sort (xs ++ ys) v)
    ≡ (if (if b && not (place.0 == 0) then place.0 else first_sort xs v) == 0 then first_sort ys v else
    (if b && not (place.0 == 0) then place.0 else first_sort xs v))) [
      | true ↦
          elim (place.0 == 0) as (λ b. (place.0 == 0) ≡ b → (if not b then place.0 else first_sort (xs ++ ys) v)
          ≡ (if (if not b then place.0 else first_sort xs v) == 0 then first_sort ys v else (if not b then place.0 else first_sort xs v))) [
            | true ↦ λ none. first-append xs ys v
            | false ↦ λ some. sym (ap (λ (b : Bool). if b then first_sort ys v else place.0) some)
          ] refl
      | false ↦ first-append xs ys v
    ]

steps-from : (problem : Problem) (steps : List OpInst) (k v : ℕ) (inst : OpInst) → inst ≡ get_or steps k inst → k < length steps
    → first_sort (sort_places problem (drop k steps)) v
    ≡ (if first_sort (paired (schema_of problem inst).param_sorts inst.args) v == 0 then
    first_sort (sort_places problem (drop (suc k) steps)) v else first_sort (paired (schema_of problem inst).param_sorts inst.args) v)
steps-from problem [] k v inst is below = absurd (omega (arith, below))
steps-from problem (step ∷ steps) zero v inst is below =
    rw is (first-append (paired (schema_of problem step).param_sorts step.args) (sort_places problem steps) v)
steps-from problem (step ∷ steps) (suc k) v inst is below = steps-from problem steps k v inst is (omega (arith, below))

module _ (problem : Problem) (steps : List OpInst) (k v : ℕ) (inst : OpInst) (is : inst ≡ get_or steps k inst) (below : k < length steps)
    (sort : ℕ) (sort_is : sort ≡ first_sort (paired (schema_of problem inst).param_sorts inst.args) v)
    (so_far : first_sort (sort_places problem (drop k steps)) v ≡ first_sort (sort_places problem steps) v) where
  of_step : first_sort (sort_places problem steps) v
      ≡ (if sort == 0 then first_sort (sort_places problem (drop (suc k) steps)) v else sort)
  of_step = rw sort_is (sym so_far ∙ steps-from problem steps k v inst is below)

  pub step-sorts : (sort == 0) ≡ false → sort ≡ first_sort (sort_places problem steps) v
  step-sorts some = sym (of_step ∙ ap (λ (b : Bool). if b then first_sort (sort_places problem (drop (suc k) steps)) v else sort) some)

  pub step-none : (sort == 0) ≡ true → first_sort (sort_places problem (drop (k + 1) steps)) v ≡ first_sort (sort_places problem steps) v
  step-none none =
      rw (add-one k)
      (sym (of_step ∙ ap (λ (b : Bool). if b then first_sort (sort_places problem (drop (suc k) steps)) v else sort) none))

-- a number other than 0 isn't equal to it by the test
pub not-none : (n : ℕ) → n ≢ 0 → (n == 0) ≡ false
not-none n other = elim (n == 0) as (λ b. (n == 0) ≡ b → b ≡ false) [ true ↦ λ is. absurd (other (eqb-true n 0 is)) | false ↦ λ is. refl ]
    refl
