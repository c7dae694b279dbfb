-- Predicates that axioms conclude.
use Rattle.std.specs.Prelude.{◌≡◌, ℕ, true, List, Any}
use Rattle.px_terms.specs.declared.clause.Clause.{Clause}
use Rattle.px_terms.specs.declared.clause.Lit.{Lit}

-- one of the literals asserts an atom of the predicate
abbrev pub Asserts : ℕ → List Lit → Type 0
Asserts pred lits = Any (λ (lit : Lit). (lit.positive ≡ true) × (lit.atom.pred ≡ pred)) lits

-- a literal of some axiom asserts an atom of the predicate
abbrev pub IsConcluded : List Clause → ℕ → Type 0
IsConcluded axioms pred = Any (λ (clause : Clause). Asserts pred clause.lits) axioms
