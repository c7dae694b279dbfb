use Rattle.std.proofs.Common.{◌∙◌, ap, sym, subst, sum_by, arith}
use Rattle.std.specs.Prelude.{All}
use Rattle.px_replay.specs.FreshOf.{row_fresh}
use Rattle.px_replay.specs.Opened.{goal_objects, opened_steps, step_variables}
use Rattle.px_replay.specs.Replaying.{HasSchema}
use Rattle.px_replay.proofs.PlanSteps.{four_sums, schemas_opened}
use Rattle.px_replay.proofs.plan.open_plan.Goals as goal

pub open_rows-requires-clause-schemas : goal.open_rows-requires-clause-schemas
open_rows-requires-clause-schemas c =
    let steps_are = c.deref.ensures.value ∙ c.in_ok-steps.ensures ∙ ap (opened_steps 0) c.as_slice-3.ensures in
    subst (All (HasSchema c.args.problem.now)) (sym steps_are)
    (schemas_opened c.args.problem.now c.args.table.now c.requires.table c.requires.no_params)

pub open_rows-requires-clause-room : goal.open_rows-requires-clause-room
open_rows-requires-clause-room c = omega (
  arith,
  c.requires.few,
  four_sums c.args.table.now,
  c.count_steps-first_object.ensures,
  c.count_goal-objects.ensures,
  ap step_variables c.as_slice.ensures,
  ap goal_objects c.as_slice-2.ensures,
  ap (sum_by row_fresh) c.as_slice-5.ensures,
)
