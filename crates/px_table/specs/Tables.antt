-- Triangle tables (Fikes, Hart and Nilsson 1972).
use Rattle.std.specs.Prelude.{◌≡◌, ℕ, ◌<◌, ◌+◌, List, [], length, map, replicate, All}
use Rattle.px_base.specs.Bounds.{u32_max}
use Rattle.px_terms.specs.declared.atom.Atom.{Atom}
use Rattle.px_terms.specs.declared.instance.OpInst.{OpInst}
use Rattle.px_terms.specs.declared.problem.Problem.{Problem}
use Rattle.px_terms.specs.Operators.{schema_of}
use Rattle.px_terms.specs.Validity.{IsTermOf, IsAtomOf, HasArity}
use Rattle.px_proof.specs.declared.proof.Proof.{Proof}
use Rattle.px_proof.specs.Derivation.{Derivation, leaves_of, leaf_atoms, terms_of}
use Rattle.px_proof.specs.ProofTerm.{derivation_of}
use Rattle.px_proof.specs.Proves.{IsObjectOrParameter}
use Rattle.px_table.specs.declared.mark.Mark.{Mark}
use Rattle.px_table.specs.declared.table.Table.{Table}
use Rattle.px_table.specs.Marks.{IsNamed, marks_from}
use Rattle.px_table.specs.Supports.{RowsProve}
use Rattle.px_table.specs.WellSorted.{IsWellSortedTable}

-- the rows as derivations
abbrev pub rows_of : List (List Proof) → List (List Derivation)
rows_of rows = map (map derivation_of) rows

-- the table of these with the marks of the rows
abbrev pub table_of_rows : ℕ → List ℕ → List OpInst → List Atom → ℕ → List (List Proof) → Table
table_of_rows params param_sorts steps goal goal_variable_count rows = record {
  params = params;
  steps = steps;
  goal = goal;
  goal_variable_count = goal_variable_count;
  marks = marks_from 1 (rows_of rows);
  proofs = rows;
  param_sorts = param_sorts;
}

-- the table of these, none of whose parameters has a sort
abbrev pub table_without_sorts : ℕ → List OpInst → List Atom → ℕ → List Mark → List (List Proof) → Table
table_without_sorts params steps goal goal_variable_count marks rows = record {
  params = params;
  steps = steps;
  goal = goal;
  goal_variable_count = goal_variable_count;
  marks = marks;
  proofs = rows;
  param_sorts = replicate params 0;
}

-- the table of nothing
abbrev pub empty_table : Table
empty_table = table_without_sorts 0 [] [] 0 [] []

-- an operator of the problem with a term for each parameter, which is one of the problem's objects or one of `params` parameters
pub record IsStepOf (problem : Problem) (params : ℕ) (inst : OpInst) : Type 0 where
  pub op : inst.op < length problem.schemas
  pub count : length inst.args ≡ (schema_of problem inst).params
  pub terms : All (IsTermOf problem params) inst.args

-- the table has fewer than `u32_max` steps, each is one over its parameters, and its goal has further variables of its own
pub record IsTableInRange (problem : Problem) (table : Table) : Type 0 where
  pub short : length table.steps < u32_max
  pub steps : All (IsStepOf problem table.params) table.steps
  pub goal : All (IsAtomOf problem (table.params + table.goal_variable_count)) table.goal

-- A table for the problem: its numbers are in range, its rows prove the preconditions of its steps and an instance of its
-- goal, over the problem's objects and the parameters, its marks are the leaves of the rows, each mark is an atom of
-- the problem that names where it comes from, and each term of the steps may stand at its place by the sorts of the parameters.
pub record IsTable (problem : Problem) (table : Table) : Type 0 where
  pub in_range : IsTableInRange problem table
  pub prove : RowsProve (IsObjectOrParameter problem.objects table.params) problem table.params table.steps table.goal table.goal_variable_count
      (rows_of table.proofs)
  pub marks : table.marks ≡ marks_from 1 (rows_of table.proofs)
  pub atoms : All (λ mark. IsAtomOf problem table.params mark.atom) table.marks
  pub named : All (IsNamed problem table.steps) table.marks
  pub sorted : IsWellSortedTable problem table

-- only objects of the problem stand in the rows, and their leaves are atoms of the problem
abbrev pub AreOfProblem : Problem → List (List Derivation) → Type 0
AreOfProblem problem rows = All (All (λ d. All (IsTermOf problem 0) (terms_of d) × All (HasArity problem) (leaf_atoms (leaves_of d)))) rows
