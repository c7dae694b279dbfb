-- The atoms that a mark may become, and the lists of them that a matcher keeps between sensings.
use Rattle.std.specs.Prelude.{◌≡◌, ℕ, ◌<◌, ◌≤◌, ◌+◌, ◌==◌, ◌&&◌, ◌⊎◌, Bool, true, List, [], Contains, filter, length, slice_index_or}
use Rattle.std.specs.Cmp.Lexicographic.{pointwise}
use Rattle.px_terms.specs.AtomSets.{IsAtomSet, with_atom}
use Rattle.px_terms.specs.Instances.{IsGround}
use Rattle.px_terms.specs.declared.atom.Atom.{Atom}
use Rattle.px_terms.specs.declared.term.Term.{Term}
use Rattle.px_terms.specs.declared.term.Term.TheVariants.{Obj, Var, Any}
use Rattle.px_terms.specs.Order.{term_eq}
use Rattle.px_ops.specs.Models.{without_atom}
use Rattle.px_ops.specs.ModelValue.{ModelValue}
use Rattle.px_table.specs.declared.mark.Mark.{Mark}

-- an object covers only itself, and a parameter each term
abbrev pub covers_term : Term → Term → Bool
covers_term (Obj n) term = term_eq (Obj n) term
covers_term (Var v) term = true
covers_term Any term = true

-- the mark may become the atom, for what its predicate and objects say
abbrev pub covers : Atom → Atom → Bool
covers mark atom = (mark.pred == atom.pred) && pointwise covers_term mark.args atom.args

-- the atoms that the mark covers, in their order
abbrev pub matches : Atom → List Atom → List Atom
matches mark atoms = filter (covers mark) atoms

-- the list of each mark has the atoms that it covers
pub record AreMatches (marks : List Mark) (atoms : List Atom) (lists : List ModelValue) : Type 0 where
  pub same : length lists ≡ length marks
  pub each : (k : ℕ) (l : ModelValue) (m : Mark) → k < length marks
      → (slice_index_or lists k l).atoms ≡ matches (slice_index_or marks k m).atom atoms

-- there are places for this number of atoms, those that are there included
abbrev pub HasCapacity : ℕ → ModelValue → Type 0
HasCapacity room list = room ≤ list.spare + length list.atoms

-- there are places for this number of atoms, or for one if the mark is ground, since it covers only itself
abbrev pub HasPlaces : ℕ → Atom → ModelValue → Type 0
HasPlaces room mark list = HasCapacity room list ⊎ (IsGround mark × HasCapacity 1 list)

-- the list has the atoms that the mark covers, and places for those that it covers of the given number
pub record IsListOf (room : ℕ) (mark : Atom) (atoms : List Atom) (list : ModelValue) : Type 0 where
  pub same : list.atoms ≡ matches mark atoms
  pub places : HasPlaces room mark list

-- the list of each mark has the atoms that it covers, and there are places for the given number of atoms
pub record AreKept (room : ℕ) (marks : List Mark) (kept : ModelValue) (lists : List ModelValue) : Type 0 where
  pub places : HasCapacity room kept
  pub same : length lists ≡ length marks
  pub each : (k : ℕ) (l : ModelValue) (m : Mark) → k < length marks
      → IsListOf room (slice_index_or marks k m).atom kept.atoms (slice_index_or lists k l)

-- if the old list is the mark's list of some atoms, the new one is its list of these without the atom
pub record IsTakenOut (mark atom : Atom) (old new : ModelValue) : Type 0 where
  pub each : (room : ℕ) (atoms : List Atom) → IsAtomSet atoms → IsListOf room mark atoms old
      → IsListOf room mark (without_atom atom atoms) new

-- if the old list is the mark's list of some atoms without the new one, the new list is its list of these with it
pub record IsPutIn (mark atom : Atom) (old new : ModelValue) : Type 0 where
  pub each : (room : ℕ) (atoms : List Atom) → IsAtomSet atoms → ¬ Contains atoms atom → IsListOf room mark atoms old
      → IsListOf room mark (with_atom atom atoms) new

-- if the old lists are the marks' lists of some atoms, the new ones are their lists of these without the atom
pub record AreTakenOut (marks : List Mark) (atom : Atom) (old new : List ModelValue) : Type 0 where
  pub same : length new ≡ length old
  pub each : (k : ℕ) (l : ModelValue) (m : Mark) → k < length marks
      → IsTakenOut (slice_index_or marks k m).atom atom (slice_index_or old k l) (slice_index_or new k l)

pub record ArePutIn (marks : List Mark) (atom : Atom) (old new : List ModelValue) : Type 0 where
  pub same : length new ≡ length old
  pub each : (k : ℕ) (l : ModelValue) (m : Mark) → k < length marks
      → IsPutIn (slice_index_or marks k m).atom atom (slice_index_or old k l) (slice_index_or new k l)

-- lists without atoms for the first `count` marks, each with the places that it needs
pub record AreEmpty (room : ℕ) (marks : List Mark) (count : ℕ) (lists : List ModelValue) : Type 0 where
  pub same : length lists ≡ count
  pub empty : (k : ℕ) (l : ModelValue) → k < length lists → (slice_index_or lists k l).atoms ≡ []
  pub places : (k : ℕ) (l : ModelValue) (m : Mark) → k < length lists
      → HasPlaces room (slice_index_or marks k m).atom (slice_index_or lists k l)
