-- What an answer of the prover gives to the support from which a triangle table is built.
use Rattle.std.specs.Prelude.{◌≡◌, ℕ, List, [], ◌∷◌, map, All}
use Rattle.std.specs.List.{AllZip}
use Rattle.px_terms.specs.Language.{IsObject}
use Rattle.px_terms.specs.Validity.{IsAtomOf, IsValid}
use Rattle.px_terms.specs.declared.atom.Atom.{Atom}
use Rattle.px_terms.specs.declared.problem.Problem.{Problem}
use Rattle.px_proof.specs.declared.proof.Leaf.{Leaf}
use Rattle.px_proof.specs.Derivation.{Derivation, derivations, fact, leaf_atoms, leaves_of}
use Rattle.px_proof.specs.Grafting.{grafted}
use Rattle.px_question.specs.Answers.{IsList}
use Rattle.px_question.specs.Rows.{IsRowProof}
use Rattle.px_question.specs.Settings.{proofs_in, setting_of}
use Rattle.px_table.specs.Supports.{IsProofOf, ProvesEachOf, ProvesGoal}
use Rattle.px_table.specs.Tables.{AreOfProblem}

-- the second proof is the first with other leaves of the same atoms
abbrev pub HasOtherLeaves : Derivation → Derivation → Type 0
HasOtherLeaves d new = (leaves : List Leaf) × (leaf_atoms leaves ≡ leaf_atoms (leaves_of d))
    × (new ≡ grafted 0 (map (λ leaf. fact leaf) leaves) d)

-- A proof for a row is one that a support may have. The proofs of an answer, with leaves of the same atoms that name where these come
-- from, are a row of a support: of a step, whose precondition has no variables, and of the goal, under the answer's objects for its
-- variables. Only what belongs to the problem stands in them.
pub record AnswersSupport : Type 0 where
  pub one : (problem : Problem) (atom : Atom) (leaves : List Leaf) (d : Derivation) → IsRowProof problem atom leaves d
      → IsProofOf IsObject problem.axioms atom d × AreOfProblem problem ((d ∷ []) ∷ [])
  pub step : (problem : Problem) (facts formula : List Atom) (objects : List ℕ) (ds row : List Derivation) → IsValid problem
      → All (IsAtomOf problem 0) formula
      → IsList (proofs_in (setting_of problem facts)) (setting_of problem facts) formula 0 objects (derivations ds)
      → AllZip HasOtherLeaves ds row
      → ProvesEachOf IsObject problem.axioms formula row × AreOfProblem problem (row ∷ [])
  pub goal : (problem : Problem) (facts formula : List Atom) (variable_count : ℕ) (objects : List ℕ) (ds row : List Derivation) → IsValid problem
      → All (IsAtomOf problem variable_count) formula
      → IsList (proofs_in (setting_of problem facts)) (setting_of problem facts) formula variable_count objects (derivations ds)
      → AllZip HasOtherLeaves ds row
      → ProvesGoal IsObject problem.axioms 0 formula variable_count row × AreOfProblem problem (row ∷ [])
