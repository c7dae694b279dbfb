-- What the proofs of a row prove.
use Rattle.std.specs.Prelude.{ℕ, List}
use Rattle.std.specs.List.{AllZip}
use Rattle.px_terms.specs.declared.atom.Atom.{Atom}
use Rattle.px_terms.specs.declared.clause.Clause.{Clause}
use Rattle.px_proof.specs.declared.proof.Proof.{Proof}
use Rattle.px_proof.specs.ProofTerm.{derivation_of}
use Rattle.px_proof.specs.Proves.{IsObjectOrParameter}
use Rattle.px_table.specs.Supports.{IsProofOf}

-- the proof proves the atom, over these numbers of objects and parameters
abbrev pub ProvesOver : List Clause → ℕ → ℕ → Atom → Proof → Type 0
ProvesOver axioms objects params atom proof = IsProofOf (IsObjectOrParameter objects params) axioms atom (derivation_of proof)

-- it proves some atom over them
abbrev pub ProvesSome : List Clause → ℕ → ℕ → Proof → Type 0
ProvesSome axioms objects params proof = (atom : Atom) × ProvesOver axioms objects params atom proof

-- it proves the atom over some objects and parameters
abbrev pub IsConclusion : List Clause → Atom → Proof → Type 0
IsConclusion axioms atom proof = (objects : ℕ) × (params : ℕ) × ProvesOver axioms objects params atom proof

-- the proofs prove the atoms, one each, in order
abbrev pub AreConclusions : List Clause → List Atom → List Proof → Type 0
AreConclusions axioms atoms row = AllZip (IsConclusion axioms) atoms row
