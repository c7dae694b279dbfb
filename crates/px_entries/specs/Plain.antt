-- Formulas whose provable atoms, and whose gaps, are read off the facts atom by atom.
use Rattle.std.specs.Prelude.{List, Any, Contains}
use Rattle.px_question.specs.Answers.{IsProvable}
use Rattle.px_question.specs.Settings.{setting_of}
use Rattle.px_terms.specs.Operators.{IsAddable}
use Rattle.px_terms.specs.declared.atom.Atom.{Atom}
use Rattle.px_terms.specs.declared.clause.Clause.{Clause}
use Rattle.px_terms.specs.declared.clause.Lit.{Lit}
use Rattle.px_terms.specs.declared.problem.Problem.{Problem}

-- one of the literals is about a predicate that some operator adds
abbrev pub AreAboutAddable : Problem → List Lit → Type 0
AreAboutAddable problem lits = Any (λ (lit : Lit). IsAddable problem lit.atom) lits

-- some axiom mentions such a predicate
abbrev pub AxiomsMentionAddable : Problem → Type 0
AxiomsMentionAddable problem = Any (λ (clause : Clause). AreAboutAddable problem clause.lits) problem.axioms

-- some operator adds the atom's predicate, and the atom is no fact
abbrev pub IsAbsent : Problem → List Atom → Atom → Type 0
IsAbsent problem facts atom = IsAddable problem atom × ¬ Contains facts atom

-- some operator adds the atom's predicate, or the atom is provable
abbrev pub IsSettled : Problem → List Atom → Atom → Type 0
IsSettled problem facts atom = (¬ IsAddable problem atom) → IsProvable (setting_of problem facts) atom
