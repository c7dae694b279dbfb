-- Which line may come next in a certificate, by the lines before it.
use Rattle.std.specs.Prelude.{◌≡◌, ◌<◌, ◌≤◌, ◌+◌, ℕ, List, [], ◌∷◌, ◌++◌, length}
use Rattle.std.proofs.Common.{zero, suc}
use Rattle.px_terms.specs.declared.atom.Atom.{Atom}
use Rattle.px_terms.specs.declared.clause.Clause.{Clause}
use Rattle.px_terms.specs.declared.instance.OpInst.{OpInst}
use Rattle.px_terms.specs.declared.problem.Problem.{Problem}
use Rattle.px_terms.specs.Clauses.{HasClauseLength}
use Rattle.px_terms.specs.Limits.{most_arguments, most_clauses, most_formula_variables, most_parameters}
use Rattle.px_terms.specs.Operators.{no_schema}
use Rattle.px_terms.specs.Validity.{IsAtomOf, IsAxiomOf, IsPatternOf}
use Rattle.px_proof.specs.declared.proof.Proof.{Proof}
use Rattle.px_table.specs.Limits.{most_steps}
use Rattle.px_cert.specs.declared.draft.Draft.{Draft}
use Rattle.px_cert.specs.declared.draft.Due.{Due}
use Rattle.px_cert.specs.declared.draft.Due.TheVariants as due
use Rattle.px_cert.specs.ClaimRanges.{AreAtMost, AreSorts, IsRowProof, IsTableAtom, IsTableStep}
use Rattle.px_cert.specs.Limits.{least_height, least_nodes, least_shapes, most_table_parameters, greatest_sort, most_atoms, most_objects, most_operators, most_predicates}
use Rattle.px_cert.specs.Lines.{Line, heading, objects, predicates, axioms, clause, operators, operator, pre, delete, add, table, goal, steps, action, row}

abbrev pub no_lines : Draft
no_lines = record {
  due = due.Heading;
  objects = [];
  arities = [];
  axioms = [];
  schemas = [];
  schema = no_schema;
  params = [];
  goal_variable_count = 0;
  goal = [];
  steps = [];
  rows = [];
}

-- the objects and predicates of the lines so far, with the limits of a certificate's problem: the least ones, since it asks for no search,
-- and as many sorts as there may be
abbrev pub language : Draft → Problem
language d = record {
  objects = length d.objects;
  arities = d.arities;
  axioms = [];
  schemas = [];
  height = least_height;
  nodes = least_nodes;
  shapes = least_shapes;
  sorts = greatest_sort;
  object_sorts = d.objects;
  weight = 0;
}

-- the problem of the lines so far
abbrev pub problem_of : Draft → Problem
problem_of d = record (language d) { axioms = d.axioms; schemas = d.schemas }

-- ---- the ranges of what may stand in a line

-- variables and parameters need an object to stand for
abbrev pub HasObjectFor : Draft → ℕ → Type 0
HasObjectFor d count = 0 < count → 0 < length d.objects

-- ---- the next line

-- The line is the one that is due, and its numbers are in range.
abbrev pub IsDue : Draft → Due → Line → Type 0
IsDue d due.Heading line = line ≡ heading
IsDue d due.Objects line = (sorts : List ℕ) × (line ≡ objects sorts) × AreSorts most_objects sorts
IsDue d due.Predicates line =
    (arities : List ℕ) × (line ≡ predicates arities) × AreAtMost most_predicates (λ arity. arity ≤ most_arguments) arities
IsDue d due.Axioms line = (count : ℕ) × (line ≡ axioms count) × (count ≤ most_clauses)
IsDue d (due.Axiom more) line =
    (c : Clause) × (line ≡ clause c) × (IsAxiomOf (language d) c × HasClauseLength c.lits × HasObjectFor d c.variable_count)
IsDue d due.Operators line = (count : ℕ) × (line ≡ operators count) × (count ≤ most_operators)
IsDue d (due.Operator more) line =
    (sorts : List ℕ) × (line ≡ operator sorts) × (AreSorts most_parameters sorts × HasObjectFor d (length sorts))
IsDue d (due.Pre more) line =
    (atoms : List Atom) × (line ≡ pre atoms) × AreAtMost most_atoms (IsAtomOf (language d) d.schema.params) atoms
IsDue d (due.Delete more) line =
    (atoms : List Atom) × (line ≡ delete atoms) × AreAtMost most_atoms (IsPatternOf (language d) d.schema.params) atoms
IsDue d (due.Add more) line =
    (atoms : List Atom) × (line ≡ add atoms) × AreAtMost most_atoms (IsAtomOf (language d) d.schema.params) atoms
IsDue d due.Table line = (sorts : List ℕ) × (line ≡ table sorts) × AreSorts most_table_parameters sorts
IsDue d due.Goal line = (variable_count : ℕ) × (atoms : List Atom) × (line ≡ goal variable_count atoms)
    × ((variable_count ≤ most_formula_variables) × AreAtMost most_atoms (IsTableAtom (language d)) atoms)
IsDue d due.Steps line = (count : ℕ) × (line ≡ steps count) × (count ≤ most_steps)
IsDue d (due.Step more rows) line = (inst : OpInst) × (line ≡ action inst) × IsTableStep (language d) d.schemas inst
IsDue d (due.Row more) line = (proofs : List Proof) × (line ≡ row proofs) × AreAtMost most_atoms (IsRowProof (language d) d.axioms) proofs
IsDue d due.Nothing line = ⊥

abbrev pub IsNext : Draft → Line → Type 0
IsNext d line = IsDue d d.due line

-- ---- what is due afterwards

-- so many axioms, operators, steps (before so many rows), rows
abbrev pub axioms_then : ℕ → Due
axioms_then zero = due.Operators
axioms_then (suc more) = due.Axiom more

abbrev pub operators_then : ℕ → Due
operators_then zero = due.Table
operators_then (suc more) = due.Operator more

abbrev pub rows_then : ℕ → Due
rows_then zero = due.Nothing
rows_then (suc more) = due.Row more

abbrev pub steps_then : ℕ → ℕ → Due
steps_then zero rows = rows_then rows
steps_then (suc more) rows = due.Step more rows

-- how many more of its kind there are after the line that is due
abbrev pub more_of : Due → ℕ
more_of (due.Axiom more) = more
more_of (due.Operator more) = more
more_of (due.Pre more) = more
more_of (due.Delete more) = more
more_of (due.Add more) = more
more_of (due.Step more rows) = more
more_of (due.Row more) = more
more_of what = 0

-- how many rows there are after the steps
abbrev pub rows_of_due : Due → ℕ
rows_of_due (due.Step more rows) = rows
rows_of_due what = 0

-- what the lines say with this one more
abbrev pub after_line : Draft → Line → Draft
after_line d heading = record d { due = due.Objects }
after_line d (objects sorts) = record d { due = due.Predicates; objects = sorts }
after_line d (predicates arities) = record d { due = due.Axioms; arities = arities }
after_line d (axioms count) = record d { due = axioms_then count }
after_line d (clause c) = record d { due = axioms_then (more_of d.due); axioms = d.axioms ++ c ∷ [] }
after_line d (operators count) = record d { due = operators_then count }
after_line d (operator sorts) = record d {
  due = due.Pre (more_of d.due);
  schema = record { op = length d.schemas; params = length sorts; pre = []; del = []; add = []; param_sorts = sorts };
}
after_line d (pre atoms) = record d { due = due.Delete (more_of d.due); schema = record d.schema { pre = atoms } }
after_line d (delete atoms) = record d { due = due.Add (more_of d.due); schema = record d.schema { del = atoms } }
after_line d (add atoms) = record d {
  due = operators_then (more_of d.due);
  schemas = d.schemas ++ record d.schema { add = atoms } ∷ [];
  schema = no_schema;
}
after_line d (table sorts) = record d { due = due.Goal; params = sorts }
after_line d (goal variable_count atoms) = record d { due = due.Steps; goal_variable_count = variable_count; goal = atoms }
after_line d (steps count) = record d { due = steps_then count (count + 1) }
after_line d (action inst) = record d { due = steps_then (more_of d.due) (rows_of_due d.due); steps = d.steps ++ inst ∷ [] }
after_line d (row proofs) = record d { due = rows_then (more_of d.due); rows = d.rows ++ proofs ∷ [] }

-- each line may come next after those before it, and they leave this draft
abbrev pub Follow : Draft → List Line → Draft → Type 0
Follow d [] last = last ≡ d
Follow d (line ∷ lines) last = IsNext d line × Follow (after_line d line) lines last
