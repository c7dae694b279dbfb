-- Which facts decide whether an entry is open. An atom whose predicate some operator adds, and no axiom mentions, never does: it is a
-- fact, or a gap closes it.
use Rattle.std.specs.Prelude.{◌≡◌, ◌⊎◌, ◌↔◌, ℕ, List, Any, Contains}
use Rattle.px_terms.specs.Operators.{IsAddable}
use Rattle.px_terms.specs.declared.atom.Atom.{Atom}
use Rattle.px_terms.specs.declared.clause.Clause.{Clause}
use Rattle.px_terms.specs.declared.clause.Lit.{Lit}
use Rattle.px_terms.specs.declared.problem.Problem.{Problem}

-- a literal of some axiom is about the predicate
abbrev pub IsMentioned : List Clause → ℕ → Type 0
IsMentioned axioms pred = Any (λ (clause : Clause). Any (λ (lit : Lit). lit.atom.pred ≡ pred) clause.lits) axioms

-- no operator adds atoms of its predicate, or some axiom mentions it
abbrev pub IsDeciding : Problem → Atom → Type 0
IsDeciding problem atom = (¬ IsAddable problem atom) ⊎ IsMentioned problem.axioms atom.pred

-- these are the deciding ones among the facts
abbrev pub AreDeciding : Problem → List Atom → List Atom → Type 0
AreDeciding problem facts deciding = (atom : Atom) → Contains deciding atom ↔ (Contains facts atom × IsDeciding problem atom)

-- both have the same deciding facts
abbrev pub DecideAlike : Problem → List Atom → List Atom → Type 0
DecideAlike problem facts others = (atom : Atom) → IsDeciding problem atom → Contains facts atom ↔ Contains others atom
