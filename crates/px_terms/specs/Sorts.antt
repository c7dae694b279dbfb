-- Sorts: which objects fit a place. Sort 0 is no sort. A list of sorts may be short: what is past its end has the sort 0.
use Rattle.std.specs.Prelude.{◌≡◌, ◌≢◌, ℕ, List, EachIndex, slice_index, slice_index_or}
use Rattle.px_terms.specs.declared.instance.OpInst.{OpInst}
use Rattle.px_terms.specs.declared.problem.Problem.{Problem}
use Rattle.px_terms.specs.declared.term.Term.{Term}
use Rattle.px_terms.specs.declared.term.Term.TheVariants.{Obj, Var, Any}
use Rattle.px_terms.specs.Language.{object_of}
use Rattle.px_terms.specs.Operators.{schema_of}
use Rattle.px_terms.specs.Validity.{IsInstanceOf}

-- the object fits a place of the wanted sort: that is 0, or the object's own
abbrev pub FitsSort : List ℕ → ℕ → ℕ → Type 0
FitsSort sorts wanted object = wanted ≢ 0 → slice_index sorts object ≡ wanted

-- each argument of a ground instance fits its place
abbrev pub AreOfSorts : List ℕ → List ℕ → List Term → Type 0
AreOfSorts sorts wanted args = EachIndex args (λ k. FitsSort sorts (slice_index wanted k) (object_of (slice_index_or args k Any)))

-- each argument of the ground instance fits its parameter, where the objects have these sorts; and by the problem's sorts
abbrev pub IsWellSortedBy : List ℕ → Problem → OpInst → Type 0
IsWellSortedBy sorts problem inst = AreOfSorts sorts (schema_of problem inst).param_sorts inst.args

abbrev pub IsWellSorted : Problem → OpInst → Type 0
IsWellSorted problem = IsWellSortedBy problem.object_sorts problem

-- a ground instance of one of the problem's operators over its objects, each of which fits its parameter
pub record IsWellSortedInstance (problem : Problem) (inst : OpInst) : Type 0 where
  pub of : IsInstanceOf problem inst
  pub fits : IsWellSorted problem inst

-- At a place of the wanted sort may stand an object that fits it, and a parameter of that sort; where it is 0, each parameter. `params`
-- are the parameters' sorts.
abbrev pub IsOfSort : List ℕ → List ℕ → ℕ → Term → Type 0
IsOfSort sorts params wanted (Obj n) = FitsSort sorts wanted n
IsOfSort sorts params wanted (Var v) = wanted ≢ 0 → slice_index params v ≡ wanted
IsOfSort sorts params wanted Any = Unit {0}

-- each term may stand at its place
abbrev pub MayStand : List ℕ → List ℕ → List ℕ → List Term → Type 0
MayStand sorts params wanted args = EachIndex args (λ k. IsOfSort sorts params (slice_index wanted k) (slice_index_or args k Any))

-- each object fits its parameter's sort
abbrev pub ObjectsFit : List ℕ → List ℕ → List ℕ → Type 0
ObjectsFit sorts params sigma = EachIndex sigma (λ v. FitsSort sorts (slice_index params v) (slice_index sigma v))
