use Rattle.std.proofs.Common.{◌<◌, length, sym, subst}
use Rattle.std.specs.Prelude.{All}
use Rattle.px_base.specs.ListLaws.{All-each, All-at}
use Rattle.px_table.specs.Tables.{IsStepOf}
use Rattle.px_terms.specs.declared.instance.OpInst.{OpInst}
use Rattle.px_diff.proofs.prefix_macros.keep_marks.Goals as goal

pub stays-requires-clause-steps : goal.stays-requires-clause-steps
stays-requires-clause-steps c =
    subst (All (λ (step : OpInst). step.op < length c.args.problem.now.schemas)) (sym c.as_slice-steps.ensures)
    (All-each (λ (step : OpInst). step.op < length c.args.problem.now.schemas) c.args.table.now.steps (λ step has.
    (All-at (IsStepOf c.args.problem.now c.args.table.now.params) c.args.table.now.steps step c.requires.table.in_range.steps has).op))
