-- Literals: their complements, and their variables replaced.
use Rattle.std.specs.Prelude.{not, true, List}
use Rattle.px_terms.specs.declared.atom.Atom.{Atom}
use Rattle.px_terms.specs.declared.clause.Lit.{Lit}
use Rattle.px_terms.specs.declared.term.Term.{Term}
use Rattle.px_terms.specs.Substitution.{substitute_atom}

abbrev pub substitute_literal : List Term → Lit → Lit
substitute_literal terms lit = record { positive = lit.positive; atom = substitute_atom terms lit.atom }

-- the same atom with the other sign
abbrev pub complement_of : Lit → Lit
complement_of lit = record { positive = not lit.positive; atom = lit.atom }

-- the literal that is the atom itself
abbrev pub positive_of : Atom → Lit
positive_of atom = record { positive = true; atom = atom }
