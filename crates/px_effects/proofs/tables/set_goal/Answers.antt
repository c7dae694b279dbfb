use Rattle.px_effects.proofs.Common.{map, declared_of, signed_view}
use Rattle.px_effects.proofs.TableLines.{goal-set}
use Rattle.px_effects.proofs.tables.set_goal.Goals as goal

pub returns-in-Table : goal.returns-in-Table
returns-in-Table c = goal-set c.args.so_far.now c.in-Some.block c.in-Table.table c.in_ok-goal.goal.items c.goal_variables-goal_variable_count.result
    (map signed_view c.args.atoms.now) c.in-Some.is c.in-Table.is c.in_ok-goal.ensures
    (c.goal_variables-goal_variable_count.ensures (declared_of c.args.so_far.now))
