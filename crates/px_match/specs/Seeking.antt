-- On which side of an atom all atoms stand that a mark becomes. Private functions alone cite this file.
use Rattle.std.specs.Prelude.{◌≡◌, ◌≢◌, ◌⊎◌, ℕ, ◌<◌, ◌≤◌, Option, List, All, IfSome, length, map, slice_index_or}
use Rattle.std.specs.Cmp.Lexicographic.{slice_cmp}
use Rattle.std.specs.declared.cmp.Ordering.TheVariants.{Less, Greater}
use Rattle.px_terms.specs.declared.atom.Atom.{Atom}
use Rattle.px_terms.specs.declared.term.Term.{Term}
use Rattle.px_terms.specs.declared.term.Term.TheVariants.{Obj}
use Rattle.px_terms.specs.Language.{substitute}
use Rattle.px_terms.specs.Order.{atom_cmp, term_cmp}
use Rattle.px_table.specs.Kernels.{atom_under}
use Rattle.px_match.specs.Reasons.{IsAtMost, IsSameBefore, object_at}

-- where there is a limit, the objects have at least, or at most, the limit at the place
abbrev pub IsFromLimit : Option ℕ → ℕ → List ℕ → Type 0
IsFromLimit limit place tau = IfSome limit (λ n. n ≤ object_at tau place)

abbrev pub IsUpToLimit : Option ℕ → ℕ → List ℕ → Type 0
IsUpToLimit limit place tau = IfSome limit (λ n. object_at tau place ≤ n)

-- there are as many objects, the same at the terms' parameters before the place
pub record IsLike (work : List ℕ) (place : ℕ) (terms : List Term) (tau : List ℕ) : Type 0 where
  pub count : length tau ≡ length work
  pub same : All (IsSameBefore work place tau) terms

-- what the term becomes isn't before the expected one with at least the limit, and not after it with at most the limit
pub record IsExpected (work : List ℕ) (place : ℕ) (limit : Option ℕ) (term expected : Term) : Type 0 where
  pub from : (tau : List ℕ) → length tau ≡ length work → IsSameBefore work place tau term → IsFromLimit limit place tau
      → term_cmp expected (substitute (map Obj tau) term) ≢ Greater
  pub up_to : (tau : List ℕ) → length tau ≡ length work → IsSameBefore work place tau term → IsUpToLimit limit place tau
      → term_cmp (substitute (map Obj tau) term) expected ≢ Greater

-- the found terms are before all that the terms become
pub record AreTermsBelow (work : List ℕ) (place : ℕ) (limit : Option ℕ) (terms found : List Term) : Type 0 where
  pub each : (tau : List ℕ) → IsLike work place terms tau → IsFromLimit limit place tau
      → slice_cmp term_cmp found (map (substitute (map Obj tau)) terms) ≡ Less

-- the found terms are after all that the terms become
pub record AreTermsAbove (work : List ℕ) (place : ℕ) (limit : Option ℕ) (terms found : List Term) : Type 0 where
  pub each : (tau : List ℕ) → IsLike work place terms tau → IsUpToLimit limit place tau
      → slice_cmp term_cmp (map (substitute (map Obj tau)) terms) found ≡ Less

-- the atom is before all that the mark becomes
pub record IsBelowInstances (work : List ℕ) (place : ℕ) (limit : Option ℕ) (mark atom : Atom) : Type 0 where
  pub each : (tau : List ℕ) → IsLike work place mark.args tau → IsFromLimit limit place tau → atom_cmp atom (atom_under tau mark) ≡ Less

-- the atom is after all that the mark becomes
pub record IsAboveInstances (work : List ℕ) (place : ℕ) (limit : Option ℕ) (mark atom : Atom) : Type 0 where
  pub each : (tau : List ℕ) → IsLike work place mark.args tau → IsUpToLimit limit place tau → atom_cmp (atom_under tau mark) atom ≡ Less

-- the mark becomes none of the atoms before the end with at least `from` at the place
pub record IsNoneBefore (work : List ℕ) (place from : ℕ) (mark : Atom) (atoms : List Atom) (end : ℕ) : Type 0 where
  pub none : (tau : List ℕ) → IsLike work place mark.args tau → from ≤ object_at tau place → (k : ℕ) (d : Atom) → k < end
      → slice_index_or atoms k d ≢ atom_under tau mark

-- what the mark becomes with at least `from` at the place is before the atom, or has at least the best object there
pub record IsPast (work : List ℕ) (place from : ℕ) (best : Option ℕ) (mark atom : Atom) : Type 0 where
  pub each : (tau : List ℕ) → IsLike work place mark.args tau → from ≤ object_at tau place → IsAtMost best (object_at tau place)
      ⊎ (atom_cmp (atom_under tau mark) atom ≡ Less)
