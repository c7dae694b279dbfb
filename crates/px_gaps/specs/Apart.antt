-- Atoms that share no variable without an object.
use Rattle.std.specs.Prelude.{◌≡◌, ◌⊎◌, ◌↔◌, ◌+◌, ℕ, List, map, length, Contains}
use Rattle.px_terms.specs.declared.atom.Atom.{Atom}
use Rattle.px_terms.specs.declared.term.Term.{Term}
use Rattle.px_terms.specs.declared.term.Term.TheVariants.{Var}
use Rattle.px_terms.specs.Language.{substitute}
use Rattle.px_gaps.specs.Closings.{OneOf}
use Rattle.px_gaps.specs.declared.apart.Parts.{Parts}

-- the variable has no object and stands in the atom
abbrev pub StandsIn : List Term → ℕ → Atom → Type 0
StandsIn terms v atom = Contains (map (substitute terms) atom.args) (Var v)

-- no variable without an object stands in an atom of the first list and in an atom of the second
abbrev pub ShareNoVariable : List Term → List Atom → List Atom → Type 0
ShareNoVariable terms xs ys = (v : ℕ) → OneOf xs (StandsIn terms v) → ¬ OneOf ys (StandsIn terms v)

-- one of the others becomes linked, and its variables are reached
pub record Links (terms : List Term) (reached after : List ℕ) (old new : Parts) : Type 0 where
  pub atom : Atom
  pub others : (a : Atom) → Contains old.others.items a ↔ ((atom ≡ a) ⊎ Contains new.others.items a)
  pub linked : (a : Atom) → Contains new.linked.items a ↔ (Contains old.linked.items a ⊎ (atom ≡ a))
  pub reaches : (v : ℕ) → Contains after v ↔ (Contains reached v ⊎ StandsIn terms v atom)
  pub fewer : length new.others.items + 1 ≡ length old.others.items
