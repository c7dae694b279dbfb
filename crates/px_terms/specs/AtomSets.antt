-- Sets of atoms, as world models are: the list of the atoms, each once, in the order of atoms.
use Rattle.std.specs.Prelude.{List}
use Rattle.std.specs.List.Sorted.{IsStrictlySortedBy}
use Rattle.px_base.specs.Sets.{with_item, set_of}
use Rattle.px_terms.specs.declared.atom.Atom.{Atom}
use Rattle.px_terms.specs.Order.{atom_cmp}

-- the list is a set of atoms: ascending, each once
abbrev pub IsAtomSet : List Atom → Type 0
IsAtomSet = IsStrictlySortedBy atom_cmp

-- the set with one more atom
abbrev pub with_atom : Atom → List Atom → List Atom
with_atom = with_item atom_cmp

-- the set of the atoms of a list
abbrev pub atom_set : List Atom → List Atom
atom_set = set_of atom_cmp
