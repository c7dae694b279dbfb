use Rattle.std.proofs.Common.{arith}
use Rattle.px_support.specs.Asking.{task_for}
use Rattle.px_support.proofs.Supported.{if_carries, if_fitting, if_instances, if_of_problem, if_supports}
use Rattle.px_support.proofs.support.support_of.Goals as goal

pub take_all-requires-clause-takeable : goal.take_all-requires-clause-takeable
take_all-requires-clause-takeable c = c.requires.found.takeable

pub take_all-requires-clause-short : goal.take_all-requires-clause-short
take_all-requires-clause-short c =
    omega (arith, c.requires.found.few, c.requires.asked.nodes.1)

pub with_goal-requires-clause-short : goal.with_goal-requires-clause-short
with_goal-requires-clause-short c =
    omega (arith, c.requires.found.few, c.requires.asked.nodes.1)

pub returns-clause-supports : goal.returns-clause-supports
returns-clause-supports c =
    if_supports c.moves_have_supports.ensures (task_for c.args.asked.now) c.args.moves.now c.with_goal.result c.requires.asked.valid
    c.requires.asked.goal c.requires.asked.tables c.requires.found.can
    c.with_goal.ensures.steps c.with_goal.ensures.rows

pub returns-clause-of_problem : goal.returns-clause-of_problem
returns-clause-of_problem c =
    if_of_problem c.moves_have_supports.ensures (task_for c.args.asked.now) c.args.moves.now c.with_goal.result c.requires.asked.valid
    c.requires.asked.goal c.requires.asked.tables c.requires.found.can
    c.with_goal.ensures.steps c.with_goal.ensures.rows

pub returns-clause-instances : goal.returns-clause-instances
returns-clause-instances c =
    if_instances c.moves_have_supports.ensures (task_for c.args.asked.now) c.args.moves.now c.with_goal.result c.requires.asked.valid
    c.requires.asked.goal c.requires.asked.tables c.requires.found.can
    c.with_goal.ensures.steps c.with_goal.ensures.rows

pub returns-clause-fitting : goal.returns-clause-fitting
returns-clause-fitting c =
    if_fitting c.moves_have_supports.ensures (task_for c.args.asked.now) c.args.moves.now c.with_goal.result c.requires.asked.valid
    c.requires.asked.goal c.requires.asked.tables c.requires.found.can
    c.with_goal.ensures.steps c.with_goal.ensures.rows

pub returns-clause-carries : goal.returns-clause-carries
returns-clause-carries c =
    if_carries c.moves_have_supports.ensures (task_for c.args.asked.now) c.args.moves.now c.with_goal.result c.requires.asked.valid
    c.requires.asked.goal c.requires.asked.tables c.requires.found.can
    c.with_goal.ensures.steps c.with_goal.ensures.rows
