-- How a row of a learned table is put onto the first proofs of its initial facts, as the code does it.
use Rattle.std.specs.Prelude.{◌≡◌, ◌≤◌, ◌+◌, ℕ, Some, List, map, length, slice_get, All, Contains}
use Rattle.std.specs.List.{AllZip}
use Rattle.px_base.specs.Bounds.{u32_max}
use Rattle.px_terms.specs.declared.atom.Atom.{Atom}
use Rattle.px_terms.specs.declared.term.Term.{Term}
use Rattle.px_terms.specs.Language.{IsVariableBelow}
use Rattle.px_terms.specs.Validity.{IsAtomOf, IsGroundInstanceOf, IsValid}
use Rattle.px_proof.specs.declared.proof.Leaf.{Leaf}
use Rattle.px_proof.specs.declared.proof.Proof.{Proof}
use Rattle.px_proof.specs.Derivation.{Derivation, leaves_of, terms_of}
use Rattle.px_proof.specs.Grafting.{first_leaves, grafted, later_leaves}
use Rattle.px_proof.specs.ProofTerm.{derivation_of}
use Rattle.px_proof.specs.Substitution.{derivation_under}
use Rattle.px_ends.specs.Made.{IsSourced}
use Rattle.px_support.specs.declared.grafts.Graft.{Graft}
use Rattle.px_support.specs.Sources.{HasFirstLeaves}

-- rows may be put onto proofs like this
pub record IsReady (graft : Graft) : Type 0 where
  pub valid : IsValid graft.problem.now
  pub all_ground : All (IsGroundInstanceOf graft.problem.now) graft.steps.now
  pub short : length graft.steps.now ≤ u32_max
  pub formula : All (IsAtomOf graft.problem.now 0) graft.formula.now

-- a proof for each of the initial facts, whose leaves are all in column 0
pub record AreFirsts (graft : Graft) (firsts : List Proof) : Type 0 where
  pub count : length firsts ≡ length graft.formula.now
  pub leaves : All HasFirstLeaves (map derivation_of firsts)

-- the part is the proof that stands where the atom does, with leaves that name where their atoms come from
abbrev pub IsPartFor : Graft → List Derivation → Atom → Derivation → Type 0
IsPartFor graft firsts atom part =
    (place : ℕ) × (first : Derivation) × (slice_get graft.formula.now place ≡ Some atom) × (slice_get firsts place ≡ Some first)
    × IsSourced graft.problem.now graft.steps.now first part

abbrev pub AreParts : Graft → List Derivation → List Leaf → List Derivation → Type 0
AreParts graft firsts = AllZip (λ (leaf : Leaf) (part : Derivation). IsPartFor graft firsts leaf.atom part)

-- under the objects, the proof's leaves in column 0 are initial facts of the row, and the others may rise
pub record IsGraftable (formula : List Atom) (terms : List Term) (shift : ℕ) (d : Derivation) : Type 0 where
  pub variables : All (IsVariableBelow (length terms)) (terms_of d)
  pub given : All (λ leaf. Contains formula leaf.atom) (first_leaves (leaves_of (derivation_under terms d)))
  pub columns : All (λ leaf. leaf.column + shift ≤ u32_max) (later_leaves (leaves_of (derivation_under terms d)))

abbrev pub IsGraftableBy : Graft → Derivation → Type 0
IsGraftableBy graft = IsGraftable graft.formula.now graft.terms.now graft.shift

-- the new proof is the old one with such parts in the places of its leaves in column 0
abbrev pub IsGraftBy : Graft → List Derivation → Derivation → Derivation → Type 0
IsGraftBy graft firsts d new = (parts : List Derivation) × AreParts graft firsts (first_leaves (leaves_of d)) parts
    × (new ≡ grafted graft.shift parts d)
