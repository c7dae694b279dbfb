-- What holds of the lines of a certificate so far.
use Rattle.std.specs.Prelude.{◌≤◌, ◌+◌, ◌*◌, ℕ, length, All, EachIndex, slice_index_or}
use Rattle.px_terms.specs.declared.clause.Clause.{Clause}
use Rattle.px_terms.specs.declared.problem.Schema.{Schema}
use Rattle.px_terms.specs.Clauses.{HasClauseLength}
use Rattle.px_terms.specs.Limits.{most_arguments, most_clauses}
use Rattle.px_terms.specs.Operators.{no_schema}
use Rattle.px_terms.specs.Validity.{IsAxiomOf, IsSchemaOf}
use Rattle.px_table.specs.Limits.{most_steps}
use Rattle.px_cert.specs.declared.draft.Draft.{Draft}
use Rattle.px_cert.specs.declared.draft.Due.{Due}
use Rattle.px_cert.specs.declared.draft.Due.TheVariants as due
use Rattle.px_cert.specs.ClaimRanges.{AreAtMost, AreSorts}
use Rattle.px_cert.specs.Drafts.{HasObjectFor, language}
use Rattle.px_cert.specs.Limits.{most_objects, most_operators, most_predicates}

abbrev pub IsGoodClause : Draft → Clause → Type 0
IsGoodClause d c = IsAxiomOf (language d) c × HasClauseLength c.lits × HasObjectFor d c.variable_count

abbrev pub IsGoodSchema : Draft → ℕ → Schema → Type 0
IsGoodSchema d place schema = IsSchemaOf (language d) place schema × HasObjectFor d schema.params

-- how many axioms and operators the lines that are left may give, at most
abbrev pub axioms_left : Due → ℕ
axioms_left due.Heading = most_clauses
axioms_left due.Objects = most_clauses
axioms_left due.Predicates = most_clauses
axioms_left due.Axioms = most_clauses
axioms_left (due.Axiom more) = more + 1
axioms_left what = 0

abbrev pub operators_left : Due → ℕ
operators_left due.Heading = most_operators
operators_left due.Objects = most_operators
operators_left due.Predicates = most_operators
operators_left due.Axioms = most_operators
operators_left (due.Axiom more) = most_operators
operators_left due.Operators = most_operators
operators_left (due.Operator more) = more + 1
operators_left (due.Pre more) = more + 1
operators_left (due.Delete more) = more + 1
operators_left (due.Add more) = more + 1
operators_left what = 0

-- where an operator is open, so far it is the next one
abbrev pub IsOpenSchema : Draft → Due → Type 0
IsOpenSchema d (due.Pre more) = IsGoodSchema d (length d.schemas) d.schema
IsOpenSchema d (due.Delete more) = IsGoodSchema d (length d.schemas) d.schema
IsOpenSchema d (due.Add more) = IsGoodSchema d (length d.schemas) d.schema
IsOpenSchema d what = Unit {0}

-- how many lines may come at most: from that of the table's parameters on, from that of the number of operators on, from that of the
-- number of axioms on
abbrev pub most_table_lines : ℕ
most_table_lines = 3 + (most_steps + (most_steps + 1))

abbrev pub most_operator_lines : ℕ
most_operator_lines = 1 + 4 * most_operators + most_table_lines

abbrev pub most_axiom_lines : ℕ
most_axiom_lines = 1 + most_clauses + most_operator_lines

-- how many lines may come, at most, the due one among them
abbrev pub lines_left : Due → ℕ
lines_left due.Heading = 3 + most_axiom_lines
lines_left due.Objects = 2 + most_axiom_lines
lines_left due.Predicates = 1 + most_axiom_lines
lines_left due.Axioms = most_axiom_lines
lines_left (due.Axiom more) = more + 1 + most_operator_lines
lines_left due.Operators = most_operator_lines
lines_left (due.Operator more) = 4 * more + 4 + most_table_lines
lines_left (due.Pre more) = 4 * more + 3 + most_table_lines
lines_left (due.Delete more) = 4 * more + 2 + most_table_lines
lines_left (due.Add more) = 4 * more + 1 + most_table_lines
lines_left due.Table = most_table_lines
lines_left due.Goal = 2 + (most_steps + (most_steps + 1))
lines_left due.Steps = 1 + (most_steps + (most_steps + 1))
lines_left (due.Step more rows) = more + 1 + rows
lines_left (due.Row more) = more + 1
lines_left due.Nothing = 0

pub record IsSound (d : Draft) : Type 0 where
  pub objects : AreSorts most_objects d.objects
  pub arities : AreAtMost most_predicates (λ arity. arity ≤ most_arguments) d.arities
  pub clauses : All (IsGoodClause d) d.axioms
  pub few_clauses : length d.axioms + axioms_left d.due ≤ most_clauses
  pub operators : EachIndex d.schemas (λ k. IsGoodSchema d k (slice_index_or d.schemas k no_schema))
  pub few_operators : length d.schemas + operators_left d.due ≤ most_operators
  pub unfinished : IsOpenSchema d d.due
