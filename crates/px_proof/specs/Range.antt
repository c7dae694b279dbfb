-- Whose terms and atoms stand in a proof.
use Rattle.std.specs.Prelude.{ℕ, List, All}
use Rattle.px_terms.specs.declared.atom.Atom.{Atom}
use Rattle.px_terms.specs.declared.clause.Lit.{Lit}
use Rattle.px_terms.specs.declared.problem.Problem.{Problem}
use Rattle.px_terms.specs.Validity.{IsAtomOf, IsAxiomOf, IsTermOf}
use Rattle.px_proof.specs.Derivation.{Derivation, leaves_of, leaf_atoms, terms_of}
use Rattle.px_proof.specs.Proves.{Proves, from_places}

-- the atoms of the leaves, and all terms, are those of the problem over the given number of parameters
pub record IsDerivationOf (problem : Problem) (params : ℕ) (d : Derivation) : Type 0 where
  pub leaves : All (IsAtomOf problem params) (leaf_atoms (leaves_of d))
  pub terms : All (IsTermOf problem params) (terms_of d)

-- where the literal and the terms that steps choose are the problem's, the proof is, whatever else the model holds
abbrev pub LeavesAreOfProblem : Type 0
LeavesAreOfProblem =
    (problem : Problem) (params : ℕ) (atoms : List Atom) (path : List Lit) (lit : Lit) (d : Derivation)
    → All (IsAxiomOf problem) problem.axioms
    → IsAtomOf problem params lit.atom
    → Proves (from_places (IsTermOf problem params) atoms) problem.axioms path lit d
    → IsDerivationOf problem params d
