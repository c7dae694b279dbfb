use Rattle.std.proofs.lemmas.Bool.Decides.{same_from_decides}
use Rattle.px_table.specs.Deciding.{rows_are_table}
use Rattle.px_table.specs.KernelLaws.{kernels_carry}
use Rattle.px_table.specs.Tables.{rows_of, table_of_rows}
use Rattle.px_table.proofs.DecidingLaws.{rows_are_decided}
use Rattle.px_table.proofs.validation.rows_make_table.Goals as goal

pub returns-clause-computes : goal.returns-clause-computes
returns-clause-computes c =
    same_from_decides c.meets_each.result
    (rows_are_table c.args.problem.now c.args.params c.args.param_sorts.now c.args.steps.now c.args.goal.now c.args.goal_variable_count
    (rows_of c.args.rows.now)) c.meets_each.ensures
    (rows_are_decided c.args.problem.now c.args.params c.args.param_sorts.now c.args.steps.now c.args.goal.now c.args.goal_variable_count
    c.args.rows.now)

pub returns-clause-carries : goal.returns-clause-carries
returns-clause-carries c =
    λ holds. kernels_carry c.args.problem.now
    (table_of_rows c.args.params c.args.param_sorts.now c.args.steps.now c.args.goal.now c.args.goal_variable_count c.args.rows.now)
    (c.meets_each.ensures.0 holds)
