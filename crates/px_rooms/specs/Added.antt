-- Adding atoms to a model, those of a predicate at a time. Private functions alone cite this file.
use Rattle.std.specs.Prelude.{◌≡◌, ◌==◌, ℕ, List, ◌++◌, filter}
use Rattle.px_terms.specs.declared.atom.Atom.{Atom}
use Rattle.px_terms.specs.AtomSets.{atom_set}

-- the atoms of a predicate
abbrev pub of_pred : ℕ → List Atom → List Atom
of_pred pred atoms = filter (λ (a : Atom). a.pred == pred) atoms

-- the atoms were added to an ascending list, whichever list that one was made of
abbrev pub AreAdded : List Atom → List Atom → List Atom → Type 0
AreAdded atoms old new = (before : List Atom) → old ≡ atom_set before → new ≡ atom_set (before ++ atoms)
