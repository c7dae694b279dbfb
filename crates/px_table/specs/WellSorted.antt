-- Sorts of tables: which terms may stand in the steps, which objects fit the parameters, and the sort that a parameter has by its places.
use Rattle.std.specs.Prelude.{◌≡◌, ◌≢◌, ℕ, ◌<◌, ◌==◌, ◌&&◌, not, List, [], ◌∷◌, length, map, slice_index, slice_index_or, All, Contains, if◌then◌else◌}
use Rattle.std.specs.List.{flat_map, range_with_len}
use Rattle.px_terms.specs.declared.instance.OpInst.{OpInst}
use Rattle.px_terms.specs.declared.problem.Problem.{Problem}
use Rattle.px_terms.specs.declared.term.Term.{Term}
use Rattle.px_terms.specs.declared.term.Term.TheVariants.{Any, Var}
use Rattle.px_terms.specs.Operators.{schema_of}
use Rattle.px_terms.specs.Order.{term_eq}
use Rattle.px_terms.specs.Sorts.{MayStand, ObjectsFit}
use Rattle.px_terms.specs.Validity.{AreSortsOf}
use Rattle.px_table.specs.declared.table.Table.{Table}

-- each term of the step may stand at its place: an object that fits it, and a parameter of its sort, or any where the place has none
abbrev pub IsWellSortedStep : Problem → List ℕ → OpInst → Type 0
IsWellSortedStep problem params inst = MayStand problem.object_sorts params (schema_of problem inst).param_sorts inst.args

-- a sort of the problem for each parameter, and each term of each step may stand at its place
pub record IsWellSortedTable (problem : Problem) (table : Table) : Type 0 where
  pub count : length table.param_sorts ≡ table.params
  pub sorts : AreSortsOf problem table.param_sorts
  pub steps : All (IsWellSortedStep problem table.param_sorts) table.steps

-- each object fits its parameter, where the objects have these sorts
abbrev pub ParametersFit : List ℕ → Table → List ℕ → Type 0
ParametersFit sorts table sigma = ObjectsFit sorts table.param_sorts sigma

-- ---- the sort of a parameter by its places

-- the parameter stands in a step at a place of this sort
pub record StandsAt (problem : Problem) (steps : List OpInst) (v sort : ℕ) : Type 0 where
  pub inst : OpInst
  pub has : Contains steps inst
  pub place : ℕ
  pub within : place < length inst.args
  pub here : slice_index_or inst.args place Any ≡ Var v
  pub sorted : slice_index (schema_of problem inst).param_sorts place ≡ sort

-- the sort is that of each sorted place of the steps at which the parameter stands, and 0 where there is none
pub record HasSortOfPlaces (problem : Problem) (steps : List OpInst) (v sort : ℕ) : Type 0 where
  pub at_each : (wanted : ℕ) → wanted ≢ 0 → StandsAt problem steps v wanted → sort ≡ wanted
  pub at_none : ((wanted : ℕ) → StandsAt problem steps v wanted → wanted ≡ 0) → sort ≡ 0

-- each parameter has the sort of the sorted places of the steps at which it stands, or 0 where there is none
pub record HasSortsOfPlaces (problem : Problem) (table : Table) : Type 0 where
  pub count : length table.param_sorts ≡ table.params
  pub each : (v : ℕ) → v < table.params → HasSortOfPlaces problem table.steps v (slice_index table.param_sorts v)

-- ---- the same by computing

-- each argument beside the sort of its place
abbrev pub paired : List ℕ → List Term → List (ℕ × Term)
paired [] args = []
paired (sort ∷ sorts) [] = []
paired (sort ∷ sorts) (arg ∷ args) = (sort, arg) ∷ paired sorts args

-- each argument of the steps beside the sort of its place
abbrev pub sort_places : Problem → List OpInst → List (ℕ × Term)
sort_places problem steps = flat_map (λ (inst : OpInst). paired (schema_of problem inst).param_sorts inst.args) steps

-- the first sort other than 0 of the places at which the parameter stands, or 0
abbrev pub first_sort : List (ℕ × Term) → ℕ → ℕ
first_sort [] v = 0
first_sort (place ∷ places) v = if term_eq place.1 (Var v) && not (place.0 == 0) then place.0 else first_sort places v

-- the sorts of that many parameters by the places of the steps at which they stand
abbrev pub sorts_by_places : Problem → List OpInst → ℕ → List ℕ
sorts_by_places problem steps params = map (first_sort (sort_places problem steps)) (range_with_len 0 params)
