-- Laws of sorts.
use Rattle.std.specs.Prelude.{◌≡◌, ℕ, ◌<◌, ◌≤◌, List, [], ◌∷◌, ◌++◌, length, map, replicate, All, slice_index, slice_index_or}
use Rattle.std.proofs.Common.{zero, suc, refl, sym, ◌∙◌, subst, arith}
use Rattle.std.proofs.Math.ListN.{get_or-append}
use Rattle.std.proofs.lemmas.List.{get_or-replicate, length-map, length-replicate}
use Rattle.px_base.specs.Bounds.{u32_max}
use Rattle.px_terms.specs.declared.instance.OpInst.{OpInst}
use Rattle.px_terms.specs.declared.problem.Problem.{Problem}
use Rattle.px_terms.specs.declared.term.Term.{Term}
use Rattle.px_terms.specs.declared.term.Term.TheVariants.{Obj, Var, Any}
use Rattle.px_terms.specs.Language.{IsPlainBelow, object_of, substitute}
use Rattle.px_terms.specs.Sorts.{AreOfSorts, FitsSort, IsOfSort, IsWellSortedBy, MayStand, ObjectsFit}
use Rattle.px_terms.specs.Validity.{AreSortsOf, IsInstanceOf, IsShort, IsTermOf}

-- ---- no sorts

-- a list of zeros is one of sorts of any problem
pub no_sorts-are : (problem : Problem) (n : ℕ) → (length {A = ℕ} (replicate n 0) ≡ n) × AreSortsOf problem (replicate n 0)
no_sorts-are problem n =
    let none : ℕ = 0 in let count = length-replicate n none in
    (count, λ k d below. let there = get_or-replicate n k none d (omega (arith, below, count)) in omega (arith, there))

-- and for that many objects, where they are few
pub no_object_sorts-are : (problem : Problem) (n : ℕ) → n < u32_max
    → (length {A = ℕ} (replicate n 0) ≡ n) × AreSortsOf problem (replicate n 0) × IsShort {X = ℕ} (replicate n 0)
no_object_sorts-are problem n few =
    let are = no_sorts-are problem n in let count = are.0 in (are.0, are.1, omega (arith, count, few))

-- ---- instances of what may stand at its place

-- the object that a parameter has
pub object_at : (sigma : List ℕ) (v : ℕ) → v < length sigma → slice_index_or (map Obj sigma) v Any ≡ Obj (slice_index sigma v)
object_at [] v below = absurd (omega (arith, below))
object_at (n ∷ sigma) zero below = refl
object_at (n ∷ sigma) (suc v) below = object_at sigma v (omega (arith, below))

-- what may stand at a place becomes an object that fits it, where the objects fit the parameters
pub term-fits : (sorts params sigma : List ℕ) (wanted : ℕ) (t : Term) → IsPlainBelow (length sigma) t → IsOfSort sorts params wanted t
    → ObjectsFit sorts params sigma → FitsSort sorts wanted (object_of (substitute (map Obj sigma) t))
term-fits sorts params sigma wanted (Obj n) plain stands given sorted = stands sorted
term-fits sorts params sigma wanted (Var v) plain stands given sorted =
    subst (λ (t : Term). slice_index sorts (object_of t) ≡ wanted) (sym (object_at sigma v plain))
    (given v plain (λ none. sorted (sym (stands sorted) ∙ none)) ∙ stands sorted)
term-fits sorts params sigma wanted Any plain stands given sorted = absurd plain

mapped-at : (f : Term → Term) (args : List Term) (k : ℕ) → k < length args
    → slice_index_or (map f args) k Any ≡ f (slice_index_or args k Any)
mapped-at f [] k below = absurd (omega (arith, below))
mapped-at f (t ∷ args) zero below = refl
mapped-at f (t ∷ args) (suc k) below = mapped-at f args k (omega (arith, below))

-- where what stands in a step may stand there, and the objects fit the parameters, the instance fits
pub instance-fits : (sorts params wanted sigma : List ℕ) (args : List Term) → All (IsPlainBelow (length sigma)) args
    → MayStand sorts params wanted args → ObjectsFit sorts params sigma → AreOfSorts sorts wanted (map (substitute (map Obj sigma)) args)
instance-fits sorts params wanted sigma args plain stands given k below =
    let inside : k < length args = omega (arith, below, length-map args (substitute (map Obj sigma))) in
    subst (λ (t : Term). FitsSort sorts (slice_index wanted k) (object_of t)) (sym (mapped-at (substitute (map Obj sigma)) args k inside))
    (term-fits sorts params sigma (slice_index wanted k) (slice_index_or args k Any) (plain k Any inside) (stands k inside) given)

-- ---- longer lists of sorts

term-more : (problem : Problem) (more : List ℕ) (wanted : ℕ) (t : Term) → length problem.object_sorts ≡ problem.objects
    → IsTermOf problem 0 t → FitsSort problem.object_sorts wanted (object_of t)
    → FitsSort (problem.object_sorts ++ more) wanted (object_of t)
term-more problem more wanted (Obj n) count of fits sorted =
    get_or-append problem.object_sorts more 0 n (omega (arith, of, count)) ∙ fits sorted
term-more problem more wanted (Var v) count of fits sorted = absurd (omega (arith, of))
term-more problem more wanted Any count of fits sorted = absurd of

-- an instance over the problem's objects that fits does so, too, where numbers past them have sorts
pub IsWellSortedBy-more : (problem : Problem) (more : List ℕ) (inst : OpInst) → length problem.object_sorts ≡ problem.objects
    → IsInstanceOf problem inst → IsWellSortedBy problem.object_sorts problem inst
    → IsWellSortedBy (problem.object_sorts ++ more) problem inst
IsWellSortedBy-more problem more inst count of fits k below =
    term-more problem more _ (slice_index_or inst.args k Any) count (of.objects k Any below) (fits k below)
