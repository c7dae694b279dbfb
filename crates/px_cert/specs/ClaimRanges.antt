-- The ranges of what may stand in a certificate, whether what it claims is so or not.
use Rattle.std.specs.Prelude.{◌≡◌, ◌<◌, ◌≤◌, ◌+◌, ℕ, List, [], length, All, slice_index_or}
use Rattle.px_terms.specs.declared.atom.Atom.{Atom}
use Rattle.px_terms.specs.declared.clause.Clause.{Clause}
use Rattle.px_terms.specs.declared.instance.OpInst.{OpInst}
use Rattle.px_terms.specs.declared.problem.Problem.{Problem}
use Rattle.px_terms.specs.declared.problem.Schema.{Schema}
use Rattle.px_terms.specs.declared.term.Term.{Term}
use Rattle.px_terms.specs.Limits.{most_arguments, most_formula_variables}
use Rattle.px_terms.specs.Operators.{no_schema}
use Rattle.px_terms.specs.Validity.{IsPatternOf, IsPatternTermOf, IsValid}
use Rattle.px_table.specs.declared.table.Table.{Table}
use Rattle.px_table.specs.Deciding.{clause_at}
use Rattle.px_table.specs.Limits.{most_steps}
use Rattle.px_table.specs.Marks.{marks_from}
use Rattle.px_table.specs.Tables.{rows_of}
use Rattle.px_proof.specs.declared.proof.Proof.{Proof}
use Rattle.px_proof.specs.Derivation.{Derivation, Derivations, fact, ancestor, step, gap, open_place, none, also, height}
use Rattle.px_proof.specs.ProofTerm.{derivation_of}
use Rattle.px_cert.specs.Limits.{greatest_sort, greatest_written_height, least_height, least_nodes, least_shapes, most_atoms, most_objects, most_operators, most_places, most_predicates, most_table_parameters, table_variables}

-- at most so many, and each of them is
abbrev pub AreAtMost : {A : Type 0} → ℕ → (A → Type 0) → List A → Type 0
AreAtMost most Is items = (length items ≤ most) × All Is items

-- sorts, at most so many
abbrev pub AreSorts : ℕ → List ℕ → Type 0
AreSorts most sorts = AreAtMost most (λ sort. sort ≤ greatest_sort) sorts

-- the operator is short enough to be written
pub record IsShortSchema (schema : Schema) : Type 0 where
  pub pre : length schema.pre ≤ most_atoms
  pub del : length schema.del ≤ most_atoms
  pub add : length schema.add ≤ most_atoms

-- ---- the table's lines, over the objects and predicates of a problem. Whether the variables are right is for the check of the table to say

abbrev pub AreTableTerms : Problem → List Term → Type 0
AreTableTerms problem terms = All (IsPatternTermOf problem table_variables) terms

abbrev pub IsTableAtom : Problem → Atom → Type 0
IsTableAtom problem atom = IsPatternOf problem table_variables atom

abbrev pub part_count : Derivations → ℕ
part_count none = 0
part_count (also d ds) = 1 + part_count ds

-- The proof's numbers are in range, and its steps have a term for each variable of their axiom, and a part for each other literal.
abbrev mutual
  pub IsProofInRange : Problem → List Clause → Derivation → Type 0
  IsProofInRange problem axioms (fact leaf) = (leaf.column ≤ most_places) × (leaf.index ≤ most_places) × IsTableAtom problem leaf.atom
  IsProofInRange problem axioms (ancestor i) = i ≤ most_places
  IsProofInRange problem axioms (step number theta place parts) =
      (number < length axioms) × (place ≤ most_places) × (length theta ≡ (clause_at axioms number).variable_count) × AreTableTerms problem theta
      × (part_count parts + 1 ≡ length (clause_at axioms number).lits) × AreProofsInRange problem axioms parts
  IsProofInRange problem axioms (gap atom) = ⊥
  IsProofInRange problem axioms open_place = ⊥

  pub AreProofsInRange : Problem → List Clause → Derivations → Type 0
  AreProofsInRange problem axioms none = Unit {0}
  AreProofsInRange problem axioms (also e es) = IsProofInRange problem axioms e × AreProofsInRange problem axioms es

-- a proof that may stand in a row
abbrev pub IsRowProof : Problem → List Clause → Proof → Type 0
IsRowProof problem axioms proof =
    (height (derivation_of proof) ≤ greatest_written_height) × IsProofInRange problem axioms (derivation_of proof)

-- a step of one of the operators, with a term for each of its parameters
abbrev pub IsTableStep : Problem → List Schema → OpInst → Type 0
IsTableStep problem schemas inst = (inst.op < length schemas) × (length inst.args ≡ (slice_index_or schemas inst.op no_schema).params)
    × AreTableTerms problem inst.args

-- ---- whole claims

-- The problem with the limits of certificates, which state none: the least ones of searches, the weight 0, and as many sorts as may be.
abbrev pub certified : Problem → Problem
certified problem = record problem {
  height = least_height;
  nodes = least_nodes;
  shapes = least_shapes;
  sorts = greatest_sort;
  weight = 0;
}

-- a problem that a certificate may be of: it is valid, has the limits of certificates, and is short enough
pub record IsCertifiedProblem (problem : Problem) : Type 0 where
  pub valid : IsValid problem
  pub limits : problem ≡ certified problem
  pub objects : problem.objects ≤ most_objects
  pub predicates : AreAtMost most_predicates (λ arity. arity ≤ most_arguments) problem.arities
  pub operators : AreAtMost most_operators IsShortSchema problem.schemas

-- The problem is such a one, and the table is short enough, has the marks of its rows, and has steps, a goal and proofs over the problem's
-- objects, predicates, axioms and operators. What is claimed, that it is a table for the problem, may be so or not.
pub record IsClaimInRange (problem : Problem) (table : Table) : Type 0 where
  pub of : IsCertifiedProblem problem
  pub params : table.params ≡ length table.param_sorts
  pub sorts : AreSorts most_table_parameters table.param_sorts
  pub goal_variable_count : table.goal_variable_count ≤ most_formula_variables
  pub goal : AreAtMost most_atoms (IsTableAtom problem) table.goal
  pub steps : AreAtMost most_steps (IsTableStep problem problem.schemas) table.steps
  pub row_count : length table.proofs ≡ length table.steps + 1
  pub rows : All (AreAtMost most_atoms (IsRowProof problem problem.axioms)) table.proofs
  pub marks : table.marks ≡ marks_from 1 (rows_of table.proofs)
