use Rattle.std.proofs.Common.{◌↔◌, drop}
use Rattle.px_proof.specs.Proves.{IsObjectOrParameter}
use Rattle.px_table.specs.Supports.{RowsProve}
use Rattle.px_table.specs.Tables.{rows_of}
use Rattle.px_table.proofs.validation.rows_prove.Given as goal

-- what is left to be proved, where the rows up to here prove what they have to
abbrev pub invariant-loop-k : goal.invariant-loop-k
invariant-loop-k l =
    RowsProve (IsObjectOrParameter l.problem.objects l.params) l.problem l.params
    (drop l.k l.steps) l.goal l.goal_variable_count
    (drop l.k (rows_of l.rows))
    ↔ RowsProve (IsObjectOrParameter l.problem.objects l.params) l.problem l.params l.steps l.goal l.goal_variable_count
    (rows_of l.rows)
