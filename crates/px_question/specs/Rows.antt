-- What an answer gives to a row of a support: proofs from the atoms of their own leaves. A leaf of an answer names the place of its
-- fact in the model, and a row names where the fact comes from, so other leaves with the same atoms are put in.
use Rattle.std.specs.Prelude.{◌≡◌, ℕ, Some, List, [], map, slice_get, All}
use Rattle.std.specs.List.{AllZip}
use Rattle.px_terms.specs.Language.{IsObject}
use Rattle.px_terms.specs.Substitution.{substitute_atom}
use Rattle.px_terms.specs.Validity.{IsAtomOf, IsAxiomOf}
use Rattle.px_terms.specs.declared.atom.Atom.{Atom}
use Rattle.px_terms.specs.declared.problem.Problem.{Problem}
use Rattle.px_proof.specs.declared.proof.Leaf.{Leaf}
use Rattle.px_proof.specs.Derivation.{Derivation, derivations, fact, leaf_atoms, leaves_of}
use Rattle.px_proof.specs.Grafting.{grafted}
use Rattle.px_proof.specs.Literals.{positive_of}
use Rattle.px_proof.specs.Proves.{IsTree, Proves, from_atoms}
use Rattle.px_proof.specs.Range.{IsDerivationOf}
use Rattle.px_question.specs.Answers.{IsList, object_terms}
use Rattle.px_question.specs.Settings.{proofs_in, setting_of}

-- a proof of the atom from the atoms of its leaves, which are these; it is over the problem's objects, and so over objects
pub record IsRowProof (problem : Problem) (atom : Atom) (leaves : List Leaf) (d : Derivation) : Type 0 where
  pub tree : IsTree problem.axioms problem.objects 0 (positive_of atom) d
  pub proves : Proves (from_atoms IsObject (leaf_atoms (leaves_of d))) problem.axioms [] (positive_of atom) d
  pub all_objects : All IsObject atom.args
  pub of_problem : IsDerivationOf problem 0 d
  pub leaves_are : leaves_of d ≡ leaves

-- such a proof whose leaves have column 0 and name their atoms' places among the model's atoms; and with whatever other leaves of the same
-- atoms in their places it still is one
pub record IsAnswerProof (problem : Problem) (atoms : List Atom) (atom : Atom) (d : Derivation) : Type 0 where
  pub here : IsRowProof problem atom (leaves_of d) d
  pub placed : All (λ leaf. (leaf.column ≡ 0) × (slice_get atoms leaf.index ≡ Some leaf.atom)) (leaves_of d)
  pub renamed : (leaves : List Leaf) → leaf_atoms leaves ≡ leaf_atoms (leaves_of d)
      → IsRowProof problem atom leaves (grafted 0 (map (λ leaf. fact leaf) leaves) d)

-- the proofs of an answer are such proofs of the formula's atoms, with the objects put in for its variables
pub record AnswersMakeRows : Type 0 where
  pub under : (problem : Problem) (atoms formula : List Atom) (variable_count : ℕ) (objects : List ℕ) (ds : List Derivation)
      → All (IsAxiomOf problem) problem.axioms → All (IsAtomOf problem variable_count) formula
      → IsList (proofs_in (setting_of problem atoms)) (setting_of problem atoms) formula variable_count objects (derivations ds)
      → AllZip (IsAnswerProof problem atoms) (map (substitute_atom (object_terms objects)) formula) ds
  pub without_variables : (problem : Problem) (atoms formula : List Atom) (objects : List ℕ) (ds : List Derivation)
      → All (IsAxiomOf problem) problem.axioms → All (IsAtomOf problem 0) formula
      → IsList (proofs_in (setting_of problem atoms)) (setting_of problem atoms) formula 0 objects (derivations ds)
      → AllZip (IsAnswerProof problem atoms) formula ds
