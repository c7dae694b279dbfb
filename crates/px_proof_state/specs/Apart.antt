-- Atoms and literals that are never equal, whatever terms stand for their variables.
use Rattle.std.specs.Prelude.{◌≡◌, List}
use Rattle.px_proof.specs.Literals.{substitute_literal}
use Rattle.px_terms.specs.declared.atom.Atom.{Atom}
use Rattle.px_terms.specs.declared.clause.Lit.{Lit}
use Rattle.px_terms.specs.declared.term.Term.{Term}
use Rattle.px_terms.specs.Language.{substitute}
use Rattle.px_terms.specs.Substitution.{substitute_atom}
use Rattle.px_unify.specs.declared.change.Change.{Change}
use Rattle.px_unify.specs.Changes.{Fits}

-- the two have no instance in common, even where their variables are kept apart
abbrev pub AreTermsApart : Term → Term → Type 0
AreTermsApart s t = (sigma tau : List Term) → ¬ (substitute sigma s ≡ substitute tau t)

abbrev pub AreApart : Atom → Atom → Type 0
AreApart a b = (sigma tau : List Term) → ¬ (substitute_atom sigma a ≡ substitute_atom tau b)

abbrev pub AreLiteralsApart : Lit → Lit → Type 0
AreLiteralsApart a b = (sigma tau : List Term) → ¬ (substitute_literal sigma a ≡ substitute_literal tau b)

-- each substitution that fits gives the two atoms one value
abbrev pub AreOneAtomUnder : List Change → Atom → Atom → Type 0
AreOneAtomUnder changes a b = (sigma : List Term) → Fits sigma changes → substitute_atom sigma a ≡ substitute_atom sigma b
