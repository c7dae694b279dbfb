use Rattle.std.proofs.Common.{◌≡◌, ◌<◌, [], length}
use Rattle.std.specs.Prelude.{All}
use Rattle.px_base.specs.Bounds.{u32_max}
use Rattle.px_terms.specs.Plans.{Carries}
use Rattle.px_terms.specs.Sorts.{IsWellSorted}
use Rattle.px_terms.specs.Validity.{IsInstanceOf}
use Rattle.px_table.specs.Supports.{Supports}
use Rattle.px_table.specs.Tables.{AreOfProblem, rows_of}
use Rattle.px_ends.specs.ByValue.{IsFound}
use Rattle.px_ends.specs.Made.{MovesRows}
use Rattle.px_ends.specs.Tasks.{initial_node, steps_of, task_of}
use Rattle.px_search.specs.declared.ends.Found.{Found}
use Rattle.px_search.proofs.Answering.{answers_found, answers_exhausted, answers_limit, answers_shape_limit, each_plan, end-exhausted, end-limit, end-shape_limit, found-in}
use Rattle.px_support.proofs.FoundByValue.{found_with_weight}
use Rattle.px_search.proofs.planning.search.Goals as goal

pub returns-in-Ok-clause-found : goal.returns-in-Ok-clause-found
returns-in-Ok-clause-found c =
    let task = task_of c.args.problem.now c.args.tables.now c.args.initial.now.atoms c.args.goal.now c.args.variable_count in
    each_plan task c.found_plan.result c.found_plan.ensures.planned
    (λ plan. IsFound task task.problem.weight plan.moves) (λ plan is. is.found)

pub returns-in-Ok-clause-few : goal.returns-in-Ok-clause-few
returns-in-Ok-clause-few c =
    let task = task_of c.args.problem.now c.args.tables.now c.args.initial.now.atoms c.args.goal.now c.args.variable_count in
    each_plan task c.found_plan.result c.found_plan.ensures.planned (λ plan. length plan.moves < c.args.problem.now.nodes)
    (λ plan is. (found_with_weight task task.problem.weight plan.moves is.found).few)

pub returns-in-Ok-clause-steps : goal.returns-in-Ok-clause-steps
returns-in-Ok-clause-steps c =
    let task = task_of c.args.problem.now c.args.tables.now c.args.initial.now.atoms c.args.goal.now c.args.variable_count in
    each_plan task c.found_plan.result c.found_plan.ensures.planned (λ plan. plan.steps ≡ steps_of c.args.tables.now [] plan.moves)
    (λ plan is. is.steps)

pub returns-in-Ok-clause-rows : goal.returns-in-Ok-clause-rows
returns-in-Ok-clause-rows c =
    let task = task_of c.args.problem.now c.args.tables.now c.args.initial.now.atoms c.args.goal.now c.args.variable_count in
    each_plan task c.found_plan.result c.found_plan.ensures.planned
    (λ plan. MovesRows task (initial_node task) [] plan.moves (rows_of plan.support.items)) (λ plan is. is.rows)

pub returns-in-Ok-clause-supports : goal.returns-in-Ok-clause-supports
returns-in-Ok-clause-supports c =
    let task = task_of c.args.problem.now c.args.tables.now c.args.initial.now.atoms c.args.goal.now c.args.variable_count in
    each_plan task c.found_plan.result c.found_plan.ensures.planned
    (λ plan. Supports c.args.problem.now c.args.initial.now.atoms plan.steps c.args.goal.now c.args.variable_count (rows_of plan.support.items))
    (λ plan is. is.supports)

pub returns-in-Ok-clause-of_problem : goal.returns-in-Ok-clause-of_problem
returns-in-Ok-clause-of_problem c =
    let task = task_of c.args.problem.now c.args.tables.now c.args.initial.now.atoms c.args.goal.now c.args.variable_count in
    each_plan task c.found_plan.result c.found_plan.ensures.planned (λ plan. AreOfProblem c.args.problem.now (rows_of plan.support.items))
    (λ plan is. is.of_problem)

pub returns-in-Ok-clause-instances : goal.returns-in-Ok-clause-instances
returns-in-Ok-clause-instances c =
    let task = task_of c.args.problem.now c.args.tables.now c.args.initial.now.atoms c.args.goal.now c.args.variable_count in
    each_plan task c.found_plan.result c.found_plan.ensures.planned (λ plan. All (IsInstanceOf c.args.problem.now) plan.steps)
    (λ plan is. is.instances)

pub returns-in-Ok-clause-fitting : goal.returns-in-Ok-clause-fitting
returns-in-Ok-clause-fitting c =
    let task = task_of c.args.problem.now c.args.tables.now c.args.initial.now.atoms c.args.goal.now c.args.variable_count in
    each_plan task c.found_plan.result c.found_plan.ensures.planned (λ plan. All (IsWellSorted c.args.problem.now) plan.steps)
    (λ plan is. is.fitting)

pub returns-in-Ok-clause-carries : goal.returns-in-Ok-clause-carries
returns-in-Ok-clause-carries c =
    let task = task_of c.args.problem.now c.args.tables.now c.args.initial.now.atoms c.args.goal.now c.args.variable_count in
    each_plan task c.found_plan.result c.found_plan.ensures.planned
    (λ plan. Carries c.args.problem.now c.args.initial.now.atoms plan.steps c.args.variable_count c.args.goal.now) (λ plan is. is.carries)

pub returns-in-Ok-clause-short : goal.returns-in-Ok-clause-short
returns-in-Ok-clause-short c =
    let task = task_of c.args.problem.now c.args.tables.now c.args.initial.now.atoms c.args.goal.now c.args.variable_count in
    each_plan task c.found_plan.result c.found_plan.ensures.planned (λ plan. length plan.steps < u32_max) (λ plan is. is.short)

pub returns-in-Ok-clause-exhausted : goal.returns-in-Ok-clause-exhausted
returns-in-Ok-clause-exhausted c =
    end-exhausted (task_of c.args.problem.now c.args.tables.now c.args.initial.now.atoms c.args.goal.now c.args.variable_count) c.found_plan.result
    c.found_plan.ensures.ends

pub returns-in-Ok-clause-node_limit : goal.returns-in-Ok-clause-node_limit
returns-in-Ok-clause-node_limit c =
    end-limit (task_of c.args.problem.now c.args.tables.now c.args.initial.now.atoms c.args.goal.now c.args.variable_count) c.found_plan.result
    c.found_plan.ensures.ends

pub returns-in-Ok-clause-shape_limit : goal.returns-in-Ok-clause-shape_limit
returns-in-Ok-clause-shape_limit c =
    end-shape_limit (task_of c.args.problem.now c.args.tables.now c.args.initial.now.atoms c.args.goal.now c.args.variable_count) c.found_plan.result
    c.found_plan.ensures.ends

pub returns-in-Ok-clause-always_found : goal.returns-in-Ok-clause-always_found
returns-in-Ok-clause-always_found c =
    let task = task_of c.args.problem.now c.args.tables.now c.args.initial.now.atoms c.args.goal.now c.args.variable_count in
    answers_found (λ (plan : Found). plan.moves) task c.found_plan.result
    (found-in task c.found_plan.result c.found_plan.ensures.planned) c.found_plan.ensures.ends

pub returns-in-Ok-clause-always_exhausted : goal.returns-in-Ok-clause-always_exhausted
returns-in-Ok-clause-always_exhausted c =
    let task = task_of c.args.problem.now c.args.tables.now c.args.initial.now.atoms c.args.goal.now c.args.variable_count in
    answers_exhausted (λ (plan : Found). plan.moves) task c.found_plan.result
    (found-in task c.found_plan.result c.found_plan.ensures.planned) c.found_plan.ensures.ends

pub returns-in-Ok-clause-always_node_limit : goal.returns-in-Ok-clause-always_node_limit
returns-in-Ok-clause-always_node_limit c =
    let task = task_of c.args.problem.now c.args.tables.now c.args.initial.now.atoms c.args.goal.now c.args.variable_count in
    answers_limit (λ (plan : Found). plan.moves) task c.found_plan.result
    (found-in task c.found_plan.result c.found_plan.ensures.planned) c.found_plan.ensures.ends

pub returns-in-Ok-clause-always_shape_limit : goal.returns-in-Ok-clause-always_shape_limit
returns-in-Ok-clause-always_shape_limit c =
    let task = task_of c.args.problem.now c.args.tables.now c.args.initial.now.atoms c.args.goal.now c.args.variable_count in
    answers_shape_limit (λ (plan : Found). plan.moves) task c.found_plan.result
    (found-in task c.found_plan.result c.found_plan.ensures.planned) c.found_plan.ensures.ends
