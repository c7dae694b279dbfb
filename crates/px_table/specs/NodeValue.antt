-- What contracts see of a node.
use Rattle.std.specs.Prelude.{List}
use Rattle.px_terms.specs.declared.atom.Atom.{Atom}
use Rattle.px_table.specs.declared.entry.Entry.{Entry}

-- a world model, and the entries that are to be applied, the top one first
pub record NodeValue : Type 0 where
  pub model : List Atom
  pub stack : List Entry
