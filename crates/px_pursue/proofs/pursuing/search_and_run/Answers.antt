use Rattle.std.proofs.Common.{List, [], true, false, map, sym, subst}
use Rattle.std.proofs.lemmas.List.{append-nil}
use Rattle.px_terms.specs.declared.atom.Atom.{Atom}
use Rattle.px_turns.specs.Told.{turn_told}
use Rattle.px_pursue.specs.Searches.{EndsWithoutPlan}
use Rattle.px_pursue.specs.Seeking.{EndsPlanRun, IsSought, task_from}
use Rattle.px_pursue.specs.declared.seeking.Sought.TheVariants.{Plan}
use Rattle.px_pursue.proofs.Searched.{ends-without, ran-plan}
use Rattle.px_pursue.proofs.pursuing.search_and_run.Goals as goal

pub run_plan-requires-clause-problem : goal.run_plan-requires-clause-problem
run_plan-requires-clause-problem g c = (c.requires.aim.searchable []).valid

pub returns-then-branch-clause-goes : goal.returns-then-branch-clause-goes
returns-then-branch-clause-goes g c =
    let aim = c.args.aim.now in
    let plan = c.in-Plan.plan in
    let atoms = g.W.World.atoms c.args.world.now in
    let sought = subst (λ (a : List Atom). IsSought (task_from aim a) (Plan plan)) c.requires.facts
    (subst (IsSought (task_from aim c.args.facts.now.atoms)) c.in-Plan.is c.in_ok-end.ensures) in
    let ends = subst (λ b. EndsPlanRun b (map turn_told c.run_plan.new.turns.items)) c.if-branch.true
    c.in_ok-run_plan-in-Plan.ensures.ends in
    let ran = ran-plan g.W.World.leaves aim.problem.now aim.tables.now aim.goal.now aim.variable_count c.args.recorded.now atoms
    (g.W.World.atoms c.run_plan.new.world) c.args.turns.now.items c.run_plan.new.turns.items plan true sought
    c.in_ok-run_plan-in-Plan.ensures.runs ends in
    (ran.0, ran.1, (ran.2, ran.3))

pub returns-else-branch-clause-goes : goal.returns-else-branch-clause-goes
returns-else-branch-clause-goes g c =
    let aim = c.args.aim.now in
    let plan = c.in-Plan.plan in
    let atoms = g.W.World.atoms c.args.world.now in
    let sought = subst (λ (a : List Atom). IsSought (task_from aim a) (Plan plan)) c.requires.facts
    (subst (IsSought (task_from aim c.args.facts.now.atoms)) c.in-Plan.is c.in_ok-end.ensures) in
    let ends = subst (λ b. EndsPlanRun b (map turn_told c.run_plan.new.turns.items)) c.if-branch.false
    c.in_ok-run_plan-in-Plan.ensures.ends in
    let ran = ran-plan g.W.World.leaves aim.problem.now aim.tables.now aim.goal.now aim.variable_count c.args.recorded.now atoms
    (g.W.World.atoms c.run_plan.new.world) c.args.turns.now.items c.run_plan.new.turns.items plan false sought
    c.in_ok-run_plan-in-Plan.ensures.runs ends in
    (ran.0, ran.1, ran.2, ran.3)

pub returns-in-WithoutPlan-clause-goes : goal.returns-in-WithoutPlan-clause-goes
returns-in-WithoutPlan-clause-goes g c =
    let aim = c.args.aim.now in
    let end = c.in-WithoutPlan.end in
    let is = subst (λ (a : List Atom). EndsWithoutPlan (task_from aim a) end) c.requires.facts
    (subst (IsSought (task_from aim c.args.facts.now.atoms)) c.in-WithoutPlan.is c.in_ok-end.ensures) in (
      [],
      sym (append-nil c.args.turns.now.items),
      ends-without g.W.World.leaves aim.problem.now aim.tables.now aim.goal.now aim.variable_count c.args.recorded.now _
          (g.W.World.atoms c.args.world.now) end is,
    )
