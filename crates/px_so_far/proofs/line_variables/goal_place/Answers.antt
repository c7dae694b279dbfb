use Rattle.px_so_far.proofs.Common.{◌∙◌, ap, bytes_eq}
use Rattle.std.specs.Prelude.{position}
use Rattle.px_so_far.proofs.TableVariables.{goal-names-are, goal-place}
use Rattle.px_so_far.proofs.line_variables.goal_place.Goals as goal

pub returns-clause-place : goal.returns-clause-place
returns-clause-place c = goal-place c.args.name.now c.place_among.result
    (c.place_among.ensures.number ∙ ap (position (bytes_eq c.args.name.now)) goal-names-are)
