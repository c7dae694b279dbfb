-- How many shapes of loose gap proofs an atom of a predicate has at most, whatever the facts are, and whatever its arguments.
use Rattle.std.specs.Prelude.{◌≡◌, ◌≤◌, ◌⊎◌, ◌+◌, ◌*◌, ℕ, true, Option, Some, None, IfSome, List, [], ◌∷◌, ◌++◌, map, length, slice_get, slice_index_or, All, Contains}
use Rattle.px_terms.specs.AtomSets.{IsAtomSet}
use Rattle.px_terms.specs.declared.atom.Atom.{Atom}
use Rattle.px_terms.specs.declared.clause.Clause.{Clause}
use Rattle.px_terms.specs.declared.clause.Lit.{Lit}
use Rattle.px_terms.specs.declared.problem.Problem.{Problem}
use Rattle.px_terms.specs.declared.term.Term.{Term}
use Rattle.px_proof.specs.declared.shape.Tick.{Tick}
use Rattle.px_proof.specs.declared.shape.Tick.TheVariants.{Fact, Anc, Step, Gap, Open}
use Rattle.px_proof.specs.Derivation.{Derivation, Derivations, step, height, greatest_height}
use Rattle.px_proof.specs.Literals.{positive_of}
use Rattle.px_proof.specs.Proves.{Proves, ProvesEach, or_open}
use Rattle.px_proof.specs.Shapes.{IsUnfinished, ticks, ticks_of}
use Rattle.px_question.specs.Limits.{AreFewGapShapes}
use Rattle.px_question.specs.Settings.{IsAddableIn, Setting, loose_gaps_in, setting_of}
use Rattle.px_gaps.specs.declared.bounds.Bound.{Bound}

-- no place is open
abbrev pub HasNoOpenTick : List Tick → Type 0
HasNoOpenTick [] = Unit {0}
HasNoOpenTick (Open ∷ shape) = ⊥
HasNoOpenTick (Fact i ∷ shape) = HasNoOpenTick shape
HasNoOpenTick (Anc i ∷ shape) = HasNoOpenTick shape
HasNoOpenTick (Step clause place ∷ shape) = HasNoOpenTick shape
HasNoOpenTick (Gap ∷ shape) = HasNoOpenTick shape

-- at most `count` shapes of the kind exist: a list that isn't longer has them all
pub record AreAtMost (IsShape : List Tick → Type 0) (count : ℕ) : Type 0 where
  pub seen : List (List Tick)
  pub few : length seen ≤ count
  pub all : (shape : List Tick) → IsShape shape → Contains seen shape

-- the bound counts all shapes of the kind, the unfinished ones and the finished ones
pub record IsBoundFor (IsShape : List Tick → Type 0) (bound : Bound) : Type 0 where
  pub unfinished : AreAtMost (λ shape. IsUnfinished shape × IsShape shape) bound.unfinished
  pub finished : AreAtMost (λ shape. HasNoOpenTick shape × IsShape shape) bound.finished

-- the shape of a loose gap proof of the atom, finished or not, within the height and under the path
abbrev pub IsAtomShape : Setting → ℕ → List Lit → Atom → List Tick → Type 0
IsAtomShape s high path q shape =
    (d : Derivation) × Proves (or_open (loose_gaps_in s)) s.axioms path (positive_of q) d × (height d ≤ high) × (ticks d ≡ shape)

-- the shape of a list of loose gap proofs of these atoms, one each, finished or not, within the height and under the path
abbrev pub IsListShape : Setting → ℕ → List Lit → List Atom → List Tick → Type 0
IsListShape s high path atoms shape =
    (ds : Derivations) × ProvesEach (or_open (loose_gaps_in s)) s.axioms path (map positive_of atoms) ds × (greatest_height ds ≤ high)
    × (ticks_of ds ≡ shape)

-- the shape of a loose gap proof of the atom that is one leaf: an open place, the place of the atom among the facts, or a gap
abbrev pub IsLeafShape : Setting → Atom → List Tick → Type 0
IsLeafShape s q shape = (shape ≡ Open ∷ []) ⊎ ((i : ℕ) × (slice_get s.facts i ≡ Some q) × (shape ≡ Fact i ∷ []))
    ⊎ (IsAddableIn s q × (shape ≡ Gap ∷ []))

-- the shape of a loose gap proof that begins with the axiom of that number at that place
abbrev pub IsUseShape : Setting → ℕ → List Lit → Atom → ℕ → ℕ → List Tick → Type 0
IsUseShape s high path q number place shape =
    (theta : List Term) × (parts : Derivations)
    × Proves (or_open (loose_gaps_in s)) s.axioms path (positive_of q) (step number theta place parts)
    × (height (step number theta place parts) ≤ high) × (ticks (step number theta place parts) ≡ shape)

-- each literal asserts its atom
abbrev pub IsAsserting : List Lit → Type 0
IsAsserting path = All (λ (lit : Lit). lit.positive ≡ true) path

-- the bound holds for each atom of the predicate, whatever the facts are, within the height and under each path whose literals assert
-- their atoms
pub record IsBound (problem : Problem) (high pred : ℕ) (bound : Bound) : Type 0 where
  pub holds :
      (facts : List Atom) → IsAtomSet facts → (path : List Lit) → IsAsserting path → (q : Atom) → q.pred ≡ pred
      → IsBoundFor (IsAtomShape (setting_of problem facts) high path q) bound

-- the bound holds for those proofs of the predicate's atoms that are leaves
pub record IsLeafBound (problem : Problem) (pred : ℕ) (bound : Bound) : Type 0 where
  pub holds : (facts : List Atom) → IsAtomSet facts → (q : Atom) → q.pred ≡ pred
      → IsBoundFor (IsLeafShape (setting_of problem facts) q) bound

-- the bound holds for those proofs of the predicate's atoms that begin with one of these axioms and places
pub record IsUseBound (problem : Problem) (high pred : ℕ) (IsUse : ℕ → ℕ → Type 0) (bound : Bound) : Type 0 where
  pub holds :
      (facts : List Atom) → IsAtomSet facts → (path : List Lit) → IsAsserting path → (q : Atom) → q.pred ≡ pred
      → IsBoundFor (λ shape. (number : ℕ) × (place : ℕ) × IsUse number place
      × IsUseShape (setting_of problem facts) high path q number place shape) bound

-- the bound holds for each list of atoms of these predicates, whatever the facts are, within the height and under such a path
pub record IsListBound (problem : Problem) (high : ℕ) (preds : List ℕ) (bound : Bound) : Type 0 where
  pub holds :
      (facts : List Atom) → IsAtomSet facts → (path : List Lit) → IsAsserting path → (atoms : List Atom)
      → map (λ (a : Atom). a.pred) atoms ≡ preds
      → IsBoundFor (IsListShape (setting_of problem facts) high path atoms) bound

-- what the table has at the place of a predicate is a bound of it
pub record AreBounds (problem : Problem) (high : ℕ) (table : List (Option Bound)) : Type 0 where
  pub each : (pred : ℕ) → IfSome (slice_index_or table pred None) (IsBound problem high pred)

-- where the table has bounds, this is a bound of each list of atoms of these predicates
pub record IsBoundBy (table : List (Option Bound)) (preds : List ℕ) (bound : Bound) : Type 0 where
  pub holds : (problem : Problem) (high : ℕ) → AreBounds problem high table → IsListBound problem high preds bound

-- where the one is a bound of the rest, the other is a bound of a list that has atoms of these predicates before it
pub record IsBoundBefore (table : List (Option Bound)) (preds : List ℕ) (rest both : Bound) : Type 0 where
  pub holds : (after : List ℕ) → IsBoundBy table after rest → IsBoundBy table (preds ++ after) both

-- where the table has bounds, this is a bound of the proofs that begin with one of these axioms and places and are at most one higher
pub record IsUseBoundBy (problem : Problem) (table : List (Option Bound)) (pred : ℕ) (IsUse : ℕ → ℕ → Type 0) (bound : Bound) : Type 0 where
  pub holds : (low : ℕ) → AreBounds problem low table → IsUseBound problem (low + 1) pred IsUse bound

-- where the table has bounds, this is a bound of such proofs that begin with this axiom at the place, whatever its number is
pub record IsBoundOfUse (table : List (Option Bound)) (pred : ℕ) (clause : Clause) (place : ℕ) (bound : Bound) : Type 0 where
  pub holds : (problem : Problem) (number : ℕ) → slice_get problem.axioms number ≡ Some clause
      → IsUseBoundBy problem table pred (λ n p. (n ≡ number) × (p ≡ place)) bound

-- where the table has bounds, this is a bound of the predicate for proofs that are at most one higher
pub record IsBoundAbove (problem : Problem) (table : List (Option Bound)) (pred : ℕ) (bound : Bound) : Type 0 where
  pub holds : (low : ℕ) → AreBounds problem low table → IsBound problem (low + 1) pred bound

-- where the one table has bounds, the other has bounds for proofs that are at most one higher
pub record AreBoundsAbove (problem : Problem) (table next : List (Option Bound)) : Type 0 where
  pub holds : (low : ℕ) → AreBounds problem low table → AreBounds problem (low + 1) next

-- An unfinished list is unfinished at its first atom, and open from there on, or it is finished there and unfinished later. A finished
-- one is finished at each.
abbrev pub bound_beside : Bound → Bound → Bound
bound_beside first rest = record {
  unfinished = first.unfinished + first.finished * rest.unfinished;
  finished = first.finished * rest.finished;
}

-- two kinds of shapes together
abbrev pub bound_either : Bound → Bound → Bound
bound_either first second = record { unfinished = first.unfinished + second.unfinished; finished = first.finished + second.finished }

-- whatever the facts are, each formula without variables over these predicates has fewer unfinished loose gap proofs than the limit
pub record HasFewShapes (problem : Problem) (preds : List ℕ) : Type 0 where
  pub few : (facts : List Atom) → IsAtomSet facts → (formula : List Atom) → map (λ (a : Atom). a.pred) formula ≡ preds
      → AreFewGapShapes (setting_of problem facts) formula 0
