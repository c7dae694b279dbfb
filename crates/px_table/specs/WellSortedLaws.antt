-- Laws of sorts in tables: when the steps fit, when the objects fit the parameters, and where each parameter may stand.
use Rattle.std.specs.Prelude.{◌≡◌, ◌≢◌, ◌≤◌, ℕ, ◌<◌, ◌==◌, ◌&&◌, not, Bool, true, false, List, [], ◌∷◌, ◌++◌, length, map, All, Contains, slice_index, slice_index_or, if◌then◌else◌}
use Rattle.std.proofs.Common.{zero, suc, refl, sym, ap, ◌∙◌, subst, inl, inr, arith, eq-eqb}
use Rattle.std.specs.Cmp.{first_so, second_so}
use Rattle.std.specs.List.{range_with_len}
use borrow.Author.Tests.{eqb-true}
use Rattle.std.proofs.Math.ListN.{get_or-append}
use Rattle.std.proofs.lemmas.List.{get_or-map, length-map}
use Rattle.std.proofs.lemmas.List.Elements.{All-append, All-cons, All-map, All-nil, Contains-append_cases, Contains-append_left, Contains-append_right}
use Rattle.std.proofs.lemmas.List.FromFn.{get_or-map-range_with_len, length-map-range_with_len}
use Rattle.px_base.specs.ListLaws.{All-at, All-each, Contains-none, Contains-first, Contains-later, Contains-cases}
use Rattle.px_terms.specs.declared.instance.OpInst.{OpInst}
use Rattle.px_terms.specs.declared.problem.Problem.{Problem}
use Rattle.px_terms.specs.declared.term.Term.{Term}
use Rattle.px_terms.specs.declared.term.Term.TheVariants.{Obj, Var, Any}
use Rattle.px_terms.specs.Language.{IsPlainBelow, object_of, substitute}
use Rattle.px_terms.specs.Operators.{schema_of}
use Rattle.px_terms.specs.Order.{term_eq}
use Rattle.px_terms.specs.OrderLaws.{term_eq-decides, both}
use Rattle.px_terms.specs.SortLaws.{instance-fits, object_at}
use Rattle.px_terms.specs.Sorts.{AreOfSorts, FitsSort, IsOfSort, IsWellSortedBy, MayStand, ObjectsFit}
use Rattle.px_terms.specs.Validity.{AreSortsOf, IsTermOf, IsValid}
use Rattle.px_proof.specs.PlaceLaws.{Contains-mapped}
use Rattle.px_table.specs.declared.table.Table.{Table}
use Rattle.px_table.specs.Kernels.{instance_under, steps_under}
use Rattle.px_table.specs.Tables.{IsStepOf, IsTable}
use Rattle.px_table.specs.WellSorted.{HasSortOfPlaces, HasSortsOfPlaces, IsWellSortedStep, IsWellSortedTable, ParametersFit, StandsAt, first_sort, paired, sort_places, sorts_by_places}

-- ---- under objects that fit, the steps fit

-- what may stand at a place may stand there, too, where numbers past the problem's objects have sorts
term-stands-more : (problem : Problem) (more params : List ℕ) (variable_count wanted : ℕ) (t : Term) → length problem.object_sorts ≡ problem.objects
    → IsTermOf problem variable_count t → IsOfSort problem.object_sorts params wanted t → IsOfSort (problem.object_sorts ++ more) params wanted t
term-stands-more problem more params variable_count wanted (Obj n) count is stands = λ sorted.
    get_or-append problem.object_sorts more 0 n (omega (arith, is, count)) ∙ stands sorted
term-stands-more problem more params variable_count wanted (Var v) count is stands = stands
term-stands-more problem more params variable_count wanted Any count is stands = stands

plain-term : (problem : Problem) (variable_count count : ℕ) (t : Term) → count ≡ variable_count → IsTermOf problem variable_count t → IsPlainBelow count t
plain-term problem variable_count count (Obj n) same is = tt
plain-term problem variable_count count (Var v) same is = omega (arith, same, is)
plain-term problem variable_count count Any same is = is

-- under objects that fit, a step fits, also where the numbers past the problem's objects have sorts
pub step-fits : (problem : Problem) (params : List ℕ) (variable_count : ℕ) (more sigma : List ℕ) (inst : OpInst) → IsValid problem
    → IsStepOf problem variable_count inst → IsWellSortedStep problem params inst → length sigma ≡ variable_count
    → ObjectsFit (problem.object_sorts ++ more) params sigma
    → IsWellSortedBy (problem.object_sorts ++ more) problem (instance_under sigma inst)
step-fits problem params variable_count more sigma inst valid is stands count given =
    instance-fits (problem.object_sorts ++ more) params (schema_of problem inst).param_sorts sigma inst.args
    (λ k d below. plain-term problem variable_count (length sigma) _ count (is.terms k d below))
    (λ k below. term-stands-more problem more params variable_count _ (slice_index_or inst.args k Any) valid.sorts.0 (is.terms k Any below)
    (stands k below)) given

-- and so do the steps of a table
pub steps-fit : (problem : Problem) (table : Table) (more sigma : List ℕ) → IsValid problem → IsTable problem table
    → length sigma ≡ table.params → ParametersFit (problem.object_sorts ++ more) table sigma
    → All (IsWellSortedBy (problem.object_sorts ++ more) problem) (steps_under table sigma)
steps-fit problem table more sigma valid is count given =
    All-map (IsWellSortedBy (problem.object_sorts ++ more) problem) (instance_under sigma) table.steps
    (λ k d below. step-fits problem table.param_sorts table.params more sigma _ valid (is.in_range.steps k d below)
    (is.sorted.steps k d below) count given)

-- ---- the places of a step and the list of its arguments beside their sorts

-- where there are as many sorts as arguments, what stands at a place of the list is the sort and the argument of that place
pub paired-at : (wanted : List ℕ) (args : List Term) (k : ℕ) → length wanted ≡ length args → k < length args
    → slice_index_or (paired wanted args) k (0, Any) ≡ (slice_index wanted k, slice_index_or args k Any)
paired-at [] args k same below = absurd (omega (arith, same, below))
paired-at (w ∷ wanted) [] k same below = absurd (omega (arith, below))
paired-at (w ∷ wanted) (t ∷ args) zero same below = refl
paired-at (w ∷ wanted) (t ∷ args) (suc k) same below = paired-at wanted args k (omega (arith, same)) (omega (arith, below))

-- an argument at a place that has a sort is in the list
sorted-paired : (wanted : List ℕ) (args : List Term) (k : ℕ) → k < length args → slice_index wanted k ≢ 0
    → Contains (paired wanted args) (slice_index wanted k, slice_index_or args k Any)
sorted-paired [] args k below sorted = absurd (sorted refl)
sorted-paired (w ∷ wanted) [] k below sorted = absurd (omega (arith, below))
sorted-paired (w ∷ wanted) (t ∷ args) zero below sorted = Contains-first (w, t) (paired wanted args)
sorted-paired (w ∷ wanted) (t ∷ args) (suc k) below sorted =
    Contains-later (w, t) (paired wanted args) _ (sorted-paired wanted args k (omega (arith, below)) sorted)

-- an object stands for the argument that fits its place
abbrev Fitting : List ℕ → List ℕ → ℕ × Term → Type 0
Fitting sorts sigma place = FitsSort sorts place.0 (object_of (substitute (map Obj sigma) place.1))

fitting-paired : (sorts wanted sigma : List ℕ) (args : List Term) → AreOfSorts sorts wanted (map (substitute (map Obj sigma)) args)
    → All (Fitting sorts sigma) (paired wanted args)
fitting-paired sorts [] sigma args fits = λ k d below. absurd (omega (arith, below))
fitting-paired sorts (w ∷ wanted) sigma [] fits = λ k d below. absurd (omega (arith, below))
fitting-paired sorts (w ∷ wanted) sigma (t ∷ args) fits =
    All-cons (Fitting sorts sigma) (w, t) (paired wanted args) (fits 0 (omega arith))
    (fitting-paired sorts wanted sigma args (λ k below. fits (suc k) (omega (arith, below))))

-- the places of steps that fit
fitting-places : (problem : Problem) (sorts sigma : List ℕ) (steps : List OpInst)
    → All (IsWellSortedBy sorts problem) (map (instance_under sigma) steps) → All (Fitting sorts sigma) (sort_places problem steps)
fitting-places problem sorts sigma [] fits = λ k d below. absurd (omega (arith, below))
fitting-places problem sorts sigma (inst ∷ steps) fits =
    All-append (Fitting sorts sigma) (paired (schema_of problem inst).param_sorts inst.args) (sort_places problem steps)
    (fitting-paired sorts (schema_of problem inst).param_sorts sigma inst.args (fits 0 (instance_under sigma inst) (omega arith)))
    (fitting-places problem sorts sigma steps (λ k d below. fits (suc k) d (omega (arith, below))))

-- ---- the first sort

not-zero : (n : ℕ) → n ≢ 0 → not (n == 0) ≡ true
not-zero n other =
    elim (n == 0) as (λ b. (n == 0) ≡ b → not b ≡ true) [ true ↦ λ is. absurd (other (eqb-true n 0 is)) | false ↦ λ is. refl ] refl

is-place : (place : ℕ × Term) (v : ℕ) → place.1 ≡ Var v → place.0 ≢ 0 → (term_eq place.1 (Var v) && not (place.0 == 0)) ≡ true
is-place place v same other = both _ _ ((term_eq-decides place.1 (Var v)).1 same) (not-zero place.0 other)

-- a sort other than 0 is that of some place at which the parameter stands
pub first_sort-stands : (places : List (ℕ × Term)) (v : ℕ) → first_sort places v ≢ 0 → Contains places (first_sort places v, Var v)
first_sort-stands [] v other = absurd (other refl)
first_sort-stands (place ∷ places) v other =
    elim (term_eq place.1 (Var v) && not (place.0 == 0)) as
    (λ b. (term_eq place.1 (Var v) && not (place.0 == 0)) ≡ b → (if b then place.0 else first_sort places v) ≢ 0
    → Contains (place ∷ places) ((if b then place.0 else first_sort places v), Var v)) [
      | true ↦ λ is some.
          subst (λ (t : Term). Contains (place ∷ places) (place.0, t)) ((term_eq-decides place.1 (Var v)).0 (first_so _ _ is))
          (Contains-first place places)
      | false ↦ λ is some. Contains-later place places (first_sort places v, Var v) (first_sort-stands places v some)
    ] refl other

-- where the parameter stands at a sorted place, it has a sort
pub first_sort-some : (places : List (ℕ × Term)) (v w : ℕ) → Contains places (w, Var v) → w ≢ 0 → first_sort places v ≢ 0
first_sort-some [] v w has other = absurd (Contains-none (w, Var v) has)
first_sort-some (place ∷ places) v w has other =
    elim (term_eq place.1 (Var v) && not (place.0 == 0)) as
    (λ b. (term_eq place.1 (Var v) && not (place.0 == 0)) ≡ b → (if b then place.0 else first_sort places v) ≢ 0) [
      | true ↦ λ is none. wrong place.0 (second_so _ _ is) none
      | false ↦ λ is. elim (Contains-cases place places (w, Var v) has) [
        | inl here ↦ absurd (apart _ (is-place place v (ap (λ (p : ℕ × Term). p.1) here)
            (λ none. other (sym (ap (λ (p : ℕ × Term). p.0) here) ∙ none))) is)
        | inr later ↦ first_sort-some places v w later other
      ]
    ] refl
  where
    both_ways : (b : Bool) → b ≡ true → ¬ (not b ≡ true)
    both_ways true is other = absurd (cc)
    both_ways false is other = absurd (cc)

    wrong : (n : ℕ) → not (n == 0) ≡ true → ¬ (n ≡ 0)
    wrong n is none = both_ways (n == 0) (eq-eqb n 0 none) is

    apart : (b : Bool) → b ≡ true → ¬ (b ≡ false)
    apart b one other = cc

-- the sort of a parameter is the first one of its places
sort-at : (problem : Problem) (steps : List OpInst) (params v : ℕ) → v < params
    → slice_index (sorts_by_places problem steps params) v ≡ first_sort (sort_places problem steps) v
sort-at problem steps params v below = get_or-map-range_with_len (first_sort (sort_places problem steps)) 0 params v v 0 below (omega arith)

-- what stands in a step stands in the steps
places-have : (problem : Problem) (steps : List OpInst) (inst : OpInst) → Contains steps inst → (place : ℕ × Term)
    → Contains (paired (schema_of problem inst).param_sorts inst.args) place → Contains (sort_places problem steps) place
places-have problem [] inst has place there = absurd (Contains-none inst has)
places-have problem (step ∷ steps) inst has place there = elim (Contains-cases step steps inst has) [
  | inl here ↦ Contains-append_left (paired (schema_of problem step).param_sorts step.args) (sort_places problem steps) place
      (subst (λ (x : OpInst). Contains (paired (schema_of problem x).param_sorts x.args) place) (sym here) there)
  | inr later ↦ Contains-append_right (paired (schema_of problem step).param_sorts step.args) (sort_places problem steps) place
      (places-have problem steps inst later place there)
]

module _ (sorts sigma : List ℕ) (places : List (ℕ × Term)) (fit : All (Fitting sorts sigma) places) where
  at-place : (v w : ℕ) → v < length sigma → Contains places (w, Var v) → FitsSort sorts w (slice_index sigma v)
  at-place v w below has =
      subst (λ (t : Term). FitsSort sorts w (object_of t)) (object_at sigma v below)
      (All-at (Fitting sorts sigma) places (w, Var v) fit has)

  -- the object fits the sort that the parameter has by its places
  parameter-fits : (v : ℕ) → v < length sigma → FitsSort sorts (first_sort places v) (slice_index sigma v)
  parameter-fits v below other = at-place v (first_sort places v) below (first_sort-stands places v other) other

  -- and each sorted place of a parameter has its sort
  parameter-stands : (v w : ℕ) → v < length sigma → Contains places (w, Var v) → w ≢ 0 → first_sort places v ≡ w
  parameter-stands v w below has other =
      sym (parameter-fits v below (first_sort-some places v w has other)) ∙ at-place v w below has other

-- where the steps fit, the objects fit the sorts that the parameters have by their places
pub places-fit : (problem : Problem) (table : Table) (sorts sigma : List ℕ) → length sigma ≡ table.params
    → table.param_sorts ≡ sorts_by_places problem table.steps table.params
    → All (IsWellSortedBy sorts problem) (steps_under table sigma) → ParametersFit sorts table sigma
places-fit problem table sorts sigma count by_places fits v below =
    let inside : v < table.params = omega (arith, below, count) in
    let is : slice_index table.param_sorts v ≡ first_sort (sort_places problem table.steps) v =
    ap (λ (l : List ℕ). slice_index l v) by_places ∙ sort-at problem table.steps table.params v inside in
    subst (λ (w : ℕ). FitsSort sorts w (slice_index sigma v)) (sym is)
    (parameter-fits sorts sigma (sort_places problem table.steps) (fitting-places problem sorts sigma table.steps fits) v below)

-- what stands at a place of an instance that fits may stand there, where each parameter has the sort of the places at which it stands
module _ (problem : Problem) (sorts sigma : List ℕ) (steps : List OpInst) (params : ℕ) (count : length sigma ≡ params)
    (fits : All (IsWellSortedBy sorts problem) (map (instance_under sigma) steps)) where
  place-stands : (wanted : ℕ) (t : Term) → IsTermOf problem params t
      → (wanted ≢ 0 → Contains (sort_places problem steps) (wanted, t)) → FitsSort sorts wanted (object_of (substitute (map Obj sigma) t))
      → IsOfSort sorts (sorts_by_places problem steps params) wanted t
  place-stands wanted (Obj n) is has fit = fit
  place-stands wanted (Var v) is has fit = λ sorted.
      sort-at problem steps params v is
      ∙ parameter-stands sorts sigma (sort_places problem steps) (fitting-places problem sorts sigma steps fits) v wanted
      (omega (arith, is, count)) (has sorted) sorted
  place-stands wanted Any is has fit = tt

  abbrev StandsByPlaces : OpInst → Type 0
  StandsByPlaces inst = MayStand sorts (sorts_by_places problem steps params) (schema_of problem inst).param_sorts inst.args

  step-stands : (inst : OpInst) → Contains steps inst → IsStepOf problem params inst
      → IsWellSortedBy sorts problem (instance_under sigma inst)
      → StandsByPlaces inst
  step-stands inst has is fit k below =
      let wanted = (schema_of problem inst).param_sorts in
      let arg : Term = slice_index_or inst.args k Any in
      let inside : k < length (map (substitute (map Obj sigma)) inst.args) =
      omega (arith, below, length-map inst.args (substitute (map Obj sigma))) in
      let there : slice_index_or (map (substitute (map Obj sigma)) inst.args) k Any ≡ substitute (map Obj sigma) arg =
      get_or-map (substitute (map Obj sigma)) inst.args k Any Any below in
      place-stands (slice_index wanted k) arg (is.terms k Any below)
      (λ sorted. places-have problem steps inst has (slice_index wanted k, arg) (sorted-paired wanted inst.args k below sorted))
      (subst (λ (t : Term). FitsSort sorts (slice_index wanted k) (object_of t)) there (fit k inside))

  -- each parameter stands only where its sort by its places allows
  pub places-stand : All (IsStepOf problem params) steps → All StandsByPlaces steps
  places-stand are =
      All-each StandsByPlaces steps (λ inst has.
      step-stands inst has (All-at (IsStepOf problem params) steps inst are has)
      (All-at (IsWellSortedBy sorts problem) (map (instance_under sigma) steps) (instance_under sigma inst) fits
      (Contains-mapped (instance_under sigma) steps inst has)))

-- the sorts by places are the problem's, one for each parameter
pub sorts_by_places-are : (problem : Problem) (steps : List OpInst) (params : ℕ) → IsValid problem
    → All (λ (inst : OpInst). inst.op < length problem.schemas) steps
    → (length (sorts_by_places problem steps params) ≡ params) × AreSortsOf problem (sorts_by_places problem steps params)
sorts_by_places-are problem steps params valid ops = (
  length-map-range_with_len (first_sort (sort_places problem steps)) 0 params,
  All-map (λ sort. sort ≤ problem.sorts) (first_sort (sort_places problem steps)) (range_with_len 0 params)
      (λ k d below. first-below (sort_places problem steps) (sorts-below steps ops) _),
)
  where
    paired-below : (wanted : List ℕ) (args : List Term) → AreSortsOf problem wanted
        → All (λ (place : ℕ × Term). place.0 ≤ problem.sorts) (paired wanted args)
    paired-below [] args are = All-nil (λ (place : ℕ × Term). place.0 ≤ problem.sorts)
    paired-below (w ∷ wanted) [] are = All-nil (λ (place : ℕ × Term). place.0 ≤ problem.sorts)
    paired-below (w ∷ wanted) (t ∷ args) are =
        All-cons (λ (place : ℕ × Term). place.0 ≤ problem.sorts) (w, t) (paired wanted args) (are 0 w (omega arith))
        (paired-below wanted args (λ k d below. are (suc k) d (omega (arith, below))))

    sorts-below : (steps : List OpInst) → All (λ (inst : OpInst). inst.op < length problem.schemas) steps
        → All (λ (place : ℕ × Term). place.0 ≤ problem.sorts) (sort_places problem steps)
    sorts-below [] ops = All-nil (λ (place : ℕ × Term). place.0 ≤ problem.sorts)
    sorts-below (inst ∷ steps) ops =
        All-append (λ (place : ℕ × Term). place.0 ≤ problem.sorts) (paired (schema_of problem inst).param_sorts inst.args)
        (sort_places problem steps)
        (paired-below (schema_of problem inst).param_sorts inst.args (valid.schemas inst.op (ops 0 inst (omega arith))).sorts.1)
        (sorts-below steps (λ k d below. ops (suc k) d (omega (arith, below))))

    first-below : (places : List (ℕ × Term)) → All (λ (place : ℕ × Term). place.0 ≤ problem.sorts) places → (v : ℕ)
        → first_sort places v ≤ problem.sorts
    first-below [] all v = omega arith
    first-below (place ∷ places) all v =
        elim (term_eq place.1 (Var v) && not (place.0 == 0)) as
        (λ b. (if b then place.0 else first_sort places v) ≤ problem.sorts) [
          | true ↦ all 0 place (omega arith)
          | false ↦ first-below places (λ k d below. all (suc k) d (omega (arith, below))) v
        ]

-- so where the steps fit under some objects, a table whose parameters have the sorts of their places is well-sorted
pub places-are_well_sorted : (problem : Problem) (table : Table) (sigma : List ℕ) → IsValid problem
    → All (IsStepOf problem table.params) table.steps → length sigma ≡ table.params
    → table.param_sorts ≡ sorts_by_places problem table.steps table.params
    → All (IsWellSortedBy problem.object_sorts problem) (steps_under table sigma) → IsWellSortedTable problem table
places-are_well_sorted problem table sigma valid are count by_places fits =
    let sorts = sorts_by_places-are problem table.steps table.params valid (λ k d below. (are k d below).op) in
    record {
      count = ap length by_places ∙ sorts.0;
      sorts = subst (AreSortsOf problem) (sym by_places) sorts.1;
      steps = subst (λ (l : List ℕ). All (IsWellSortedStep problem l) table.steps) (sym by_places)
          (places-stand problem problem.object_sorts sigma table.steps table.params count fits are);
    }

-- ---- what is said of the places and what is computed agree

-- what is in the list of arguments beside their sorts stands at a place
pub paired-place : (wanted : List ℕ) (args : List Term) (w : ℕ) (t : Term) → Contains (paired wanted args) (w, t)
    → (k : ℕ) × (k < length args) × (slice_index_or args k Any ≡ t) × (slice_index wanted k ≡ w)
paired-place [] args w t has = absurd (Contains-none (w, t) has)
paired-place (s ∷ wanted) [] w t has = absurd (Contains-none (w, t) has)
paired-place (s ∷ wanted) (a ∷ args) w t has = elim (Contains-cases (s, a) (paired wanted args) (w, t) has) [
  | inl here ↦ (0, omega arith, ap (λ (p : ℕ × Term). p.1) here, ap (λ (p : ℕ × Term). p.0) here)
  | inr later ↦
      let found = paired-place wanted args w t later in (suc found.0, omega (arith, found.1), found.2, found.3)
]

-- a parameter that is in the list stands at a place of a step
stands-at : (problem : Problem) (steps : List OpInst) (v w : ℕ) → Contains (sort_places problem steps) (w, Var v)
    → StandsAt problem steps v w
stands-at problem [] v w has = absurd (Contains-none (w, Var v) has)
stands-at problem (inst ∷ steps) v w has =
    elim (Contains-append_cases (paired (schema_of problem inst).param_sorts inst.args) (sort_places problem steps) (w, Var v) has) [
      | inl first ↦
          let found = paired-place (schema_of problem inst).param_sorts inst.args w (Var v) first in
          record {
            inst = inst;
            has = Contains-first inst steps;
            place = found.0;
            within = found.1;
            here = found.2;
            sorted = found.3;
          }
      | inr later ↦
          let found = stands-at problem steps v w later in
          record {
            inst = found.inst;
            has = Contains-later inst steps found.inst found.has;
            place = found.place;
            within = found.within;
            here = found.here;
            sorted = found.sorted;
          }
    ]

-- and one that stands at a sorted place is in it
stands-in : (problem : Problem) (steps : List OpInst) (v w : ℕ) → w ≢ 0 → StandsAt problem steps v w
    → Contains (sort_places problem steps) (w, Var v)
stands-in problem steps v w other there =
    let wanted = (schema_of problem there.inst).param_sorts in
    let same : (slice_index wanted there.place, slice_index_or there.inst.args there.place Any) ≡ (w, Var v) = λ i. (there.sorted i, there.here i) in
    subst (λ (place : ℕ × Term). Contains (sort_places problem steps) place) same
    (places-have problem steps there.inst there.has (slice_index wanted there.place, slice_index_or there.inst.args there.place Any)
    (sorted-paired wanted there.inst.args there.place there.within (λ zero_here. other (sym there.sorted ∙ zero_here))))

zero-unless : (n : ℕ) → (n ≢ 0 → n ≡ 0) → n ≡ 0
zero-unless zero unless = refl
zero-unless (suc n) unless = unless (λ e. absurd (omega (arith, e)))

by-zero : {G : Type 0} (n : ℕ) → (n ≡ 0 → G) → (n ≢ 0 → G) → G
by-zero zero here other = here refl
by-zero (suc n) here other = other (λ e. absurd (omega (arith, e)))

-- in a table that is well-sorted, the first sort of the places at which a parameter stands is that of each sorted one
first_sort-of_places : (problem : Problem) (table : Table) (v : ℕ) → IsWellSortedTable problem table
    → slice_index table.param_sorts v ≡ first_sort (sort_places problem table.steps) v
    → HasSortOfPlaces problem table.steps v (slice_index table.param_sorts v)
first_sort-of_places problem table v sorted is = record {
  at_each = λ wanted other there.
      let place_sort = slice_index (schema_of problem there.inst).param_sorts there.place in
      let stands = All-at (IsWellSortedStep problem table.param_sorts) table.steps there.inst sorted.steps there.has there.place there.within in
      subst (λ (t : Term). IsOfSort problem.object_sorts table.param_sorts place_sort t) there.here stands
      (λ zero_here. other (sym there.sorted ∙ zero_here))
      ∙ there.sorted;
  at_none = λ unsorted. zero-unless (slice_index table.param_sorts v) (λ other.
      let first = first_sort (sort_places problem table.steps) v in
      is ∙ unsorted first (stands-at problem table.steps v first (first_sort-stands (sort_places problem table.steps) v
      (λ zero_here. other (is ∙ zero_here)))));
}

-- the sort that a parameter has by its places is the first one
sort-of_places : (problem : Problem) (steps : List OpInst) (v sort : ℕ) → HasSortOfPlaces problem steps v sort
    → sort ≡ first_sort (sort_places problem steps) v
sort-of_places problem steps v sort is =
    let first = first_sort (sort_places problem steps) v in
    by-zero first
    (λ zero_here. is.at_none (λ w there. zero-unless w (λ other. absurd
    (first_sort-some (sort_places problem steps) v w (stands-in problem steps v w other there) other zero_here)))
    ∙ sym zero_here)
    (λ other. is.at_each first other (stands-at problem steps v first (first_sort-stands (sort_places problem steps) v other)))

same-sorts : (xs ys : List ℕ) → length xs ≡ length ys → ((k : ℕ) → k < length xs → slice_index xs k ≡ slice_index ys k) → xs ≡ ys
same-sorts [] [] count each = refl
same-sorts [] (y ∷ ys) count each = absurd (omega (arith, count))
same-sorts (x ∷ xs) [] count each = absurd (omega (arith, count))
same-sorts (x ∷ xs) (y ∷ ys) count each =
    let first : x ≡ y = each 0 (omega arith) in
    let rest = same-sorts xs ys (omega (arith, count)) (λ k below. each (suc k) (omega (arith, below))) in
    λ i. first i ∷ rest i

-- where each parameter has the sort of the sorted places at which it stands, or 0, these sorts are the ones that are computed
pub sorts_of_places-computed : (problem : Problem) (table : Table) → HasSortsOfPlaces problem table
    → table.param_sorts ≡ sorts_by_places problem table.steps table.params
sorts_of_places-computed problem table is =
    same-sorts table.param_sorts (sorts_by_places problem table.steps table.params)
    (is.count ∙ sym (length-map-range_with_len (first_sort (sort_places problem table.steps)) 0 table.params))
    (λ v below.
    let inside : v < table.params = omega (arith, below, is.count) in
    sort-of_places problem table.steps v (slice_index table.param_sorts v) (is.each v inside)
    ∙ sym (sort-at problem table.steps table.params v inside))

-- and in a well-sorted table the sorts that are computed are those
pub sorts_by_places-said : (problem : Problem) (table : Table) → IsWellSortedTable problem table
    → table.param_sorts ≡ sorts_by_places problem table.steps table.params → HasSortsOfPlaces problem table
sorts_by_places-said problem table sorted by_places = record {
  count = sorted.count;
  each = λ v below. first_sort-of_places problem table v sorted
      (ap (λ (l : List ℕ). slice_index l v) by_places ∙ sort-at problem table.steps table.params v below);
}
