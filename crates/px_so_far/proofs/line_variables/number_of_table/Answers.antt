use Rattle.px_so_far.proofs.TableVariables.{a-parameter, of-goal, of-none}
use Rattle.px_so_far.proofs.line_variables.number_of_table.Goals as goal

pub returns-in-Some : goal.returns-in-Some
returns-in-Some c = a-parameter c.args.name.now c.args.parameters c.in-Some.place (rw c.in-Some.is at c.parameter_place.ensures)

pub returns-in-Some-goal_place : goal.returns-in-Some-goal_place
returns-in-Some-goal_place c = of-goal c.args.name.now c.args.parameters c.in-Some-goal_place.place
    (rw c.in-None.is at c.parameter_place.ensures) (rw c.in-Some-goal_place.is at c.goal_place.ensures.place)

pub returns-in-None-goal_place : goal.returns-in-None-goal_place
returns-in-None-goal_place c = of-none c.args.name.now c.args.parameters (rw c.in-None.is at c.parameter_place.ensures)
    (rw c.in-None-goal_place.is at c.goal_place.ensures.place)
