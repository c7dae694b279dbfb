use Rattle.std.proofs.Common.{length, map, ap, ◌∙◌, arith}
use Rattle.std.proofs.lemmas.List.{length-map}
use Rattle.px_terms.specs.Language.{IsObject}
use Rattle.px_proof.specs.ProofTerm.{derivation_of}
use Rattle.px_table.specs.KernelLaws.{kernels_carry}
use Rattle.px_table.specs.Marks.{marks_from}
use Rattle.px_table.specs.SupportLaws.{support_carries, support_table}
use Rattle.px_table.specs.Tables.{rows_of}
use Rattle.px_table.proofs.RowSteps.{rows_length}
use Rattle.px_table.proofs.building.build.Goals as goal

pub marks-requires : goal.marks-requires
marks-requires c =
    let long =
    rows_length IsObject c.args.problem.now 0 c.args.goal.now c.args.goal_variable_count c.args.steps.now
    (rows_of c.args.support.items) c.requires.supports.1.prove in
    omega (arith, long, c.requires.short, ap length c.deref.ensures.value, length-map c.args.support.items (map derivation_of))

pub returns-in_err-table_marks-clause-carries : goal.returns-in_err-table_marks-clause-carries
returns-in_err-table_marks-clause-carries c =
    λ atoms supports. support_carries c.args.problem.now atoms c.args.steps.now c.args.goal.now c.args.goal_variable_count
    (rows_of c.args.support.items) c.requires.rows supports

pub returns-in_err-table_steps-clause-carries : goal.returns-in_err-table_steps-clause-carries
returns-in_err-table_steps-clause-carries c =
    λ atoms supports. support_carries c.args.problem.now atoms c.args.steps.now c.args.goal.now c.args.goal_variable_count
    (rows_of c.args.support.items) c.requires.rows supports

pub returns-in_err-table_goal-clause-carries : goal.returns-in_err-table_goal-clause-carries
returns-in_err-table_goal-clause-carries c =
    λ atoms supports. support_carries c.args.problem.now atoms c.args.steps.now c.args.goal.now c.args.goal_variable_count
    (rows_of c.args.support.items) c.requires.rows supports

pub returns-in_err-table-clause-carries : goal.returns-in_err-table-clause-carries
returns-in_err-table-clause-carries c =
    λ atoms supports. support_carries c.args.problem.now atoms c.args.steps.now c.args.goal.now c.args.goal_variable_count
    (rows_of c.args.support.items) c.requires.rows supports

pub returns-clause-table : goal.returns-clause-table
returns-clause-table c =
    let marks = c.in_ok-table_marks.ensures ∙ ap (λ rows. marks_from 1 (rows_of rows)) c.deref.ensures.value in
    rw (c.in_ok-table.ensures, c.in_ok-table_steps.ensures, c.in_ok-table_goal.ensures, marks, c.from_vec-proofs.ensures)
    (support_table c.args.problem.now c.requires.problem c.requires.supports.0 c.args.steps.now c.args.goal.now c.args.goal_variable_count
    c.args.support.items c.requires.supports.1 c.requires.steps c.requires.goal c.requires.rows c.requires.short c.requires.fitting)

pub returns-clause-kernels : goal.returns-clause-kernels
returns-clause-kernels c = kernels_carry _ _ (returns-clause-table c)

pub returns-clause-carries : goal.returns-clause-carries
returns-clause-carries c =
    λ atoms supports. support_carries c.args.problem.now atoms c.args.steps.now c.args.goal.now c.args.goal_variable_count
    (rows_of c.args.support.items) c.requires.rows supports
