use Rattle.std.proofs.Common.{◌≡◌, ◌+◌, suc, Option, map, ◌∙◌, subst, arith}
use Rattle.px_printer.specs.declared.pursue_end.PursueEnd.{PursueEnd}
use Rattle.px_turns.specs.Told.{turn_told}
use Rattle.px_turns.proofs.Admitting.{admit-both}
use Rattle.px_pursue.specs.Pursuits.{IsPursuit}
use Rattle.px_pursue.specs.Seeking.{SearchesOnce}
use Rattle.px_pursue.proofs.Few.{vain_runs_are_few}
use Rattle.px_pursue.proofs.Reaching.{goals_are_reached}
use Rattle.px_pursue.proofs.VainSearches.{VainSoFar, pursued, vain-next, vain-uses}
use Rattle.px_pursue.proofs.pursuing.pursue.Goals as goal

pub overflow_add-searches : goal.overflow_add-searches
overflow_add-searches g c =
    let few = vain_runs_are_few g.W.World.leaves c.args.problem.now c.args.tables.now c.args.goal.now c.args.variable_count c.args.recorded.now
    c.searching.searches (g.W.World.atoms c.args.world.now) (g.W.World.atoms c.searching.world) (map turn_told c.searching.turns.items)
    (record { valid = c.requires.problem; nodes = c.requires.problem.nodes.1; goal = c.requires.goal; learned = c.requires.tables })
    c.searching.invariant.0 in
    omega (arith, few, c.requires.short)

pub returns-in-Some-clause-few : goal.returns-in-Some-clause-few
returns-in-Some-clause-few g c =
    let few = vain_runs_are_few g.W.World.leaves c.args.problem.now c.args.tables.now c.args.goal.now c.args.variable_count c.args.recorded.now
    c.searching.searches (g.W.World.atoms c.args.world.now) (g.W.World.atoms c.searching.world) (map turn_told c.searching.turns.items)
    (record { valid = c.requires.problem; nodes = c.requires.problem.nodes.1; goal = c.requires.goal; learned = c.requires.tables })
    c.searching.invariant.0 in
    omega (arith, few)

pub returns-in-Some-clause-reached : goal.returns-in-Some-clause-reached
returns-in-Some-clause-reached g c is =
    let leaves = g.W.World.leaves in
    let problem = c.args.problem.now in
    let tables = c.args.tables.now in
    let goal = c.args.goal.now in
    let variable_count = c.args.variable_count in
    let recorded = c.args.recorded.now in
    let start = g.W.World.atoms c.args.world.now in
    let before = c.searching.turns.items in
    let turns = c.search_and_run.new.turns.items in
    let atoms = g.W.World.atoms c.searching.world in
    let after = g.W.World.atoms c.search_and_run.new.world in
    let last = subst (λ (o : Option PursueEnd). SearchesOnce leaves problem tables goal variable_count recorded before atoms turns o after)
    c.in-Some.is c.in_ok-end.ensures.goes in
    let whole = pursued leaves problem tables goal variable_count recorded start c.searching.searches before turns atoms after c.in-Some.end
    c.searching.invariant.0 last in
    goals_are_reached leaves problem tables goal variable_count recorded start after (suc c.searching.searches) (map turn_told turns)
    (record { valid = c.requires.problem; nodes = c.requires.problem.nodes.1; goal = c.requires.goal; learned = c.requires.tables })
    (subst (λ (e : PursueEnd). IsPursuit leaves problem tables goal variable_count recorded start (suc c.searching.searches) (map turn_told turns) e
    after) is whole)

pub searching-smaller : goal.searching-smaller
searching-smaller g c =
    let before = c.searching.turns.items in
    let turns = c.search_and_run.new.turns.items in
    let atoms = g.W.World.atoms c.searching.world in
    let after = g.W.World.atoms c.search_and_run.new.world in
    vain-uses g.W.World.leaves c.args.problem.now c.args.tables.now c.args.goal.now c.args.variable_count c.args.recorded.now
    (g.W.World.atoms c.args.world.now)
    (record { valid = c.requires.problem; nodes = c.requires.problem.nodes.1; goal = c.requires.goal; learned = c.requires.tables })
    before turns atoms after
    (subst (λ (o : Option PursueEnd). SearchesOnce g.W.World.leaves c.args.problem.now c.args.tables.now c.args.goal.now c.args.variable_count
    c.args.recorded.now before atoms turns o after) c.in-None.is c.in_ok-end.ensures.goes)

pub searching-preserved : goal.searching-preserved
searching-preserved g c =
    let leaves = g.W.World.leaves in
    let problem = c.args.problem.now in
    let tables = c.args.tables.now in
    let goal = c.args.goal.now in
    let variable_count = c.args.variable_count in
    let recorded = c.args.recorded.now in
    let start = g.W.World.atoms c.args.world.now in
    let before = c.searching.turns.items in
    let turns = c.search_and_run.new.turns.items in
    let atoms = g.W.World.atoms c.searching.world in
    let after = g.W.World.atoms c.search_and_run.new.world in
    let once = subst (λ (o : Option PursueEnd). SearchesOnce leaves problem tables goal variable_count recorded before atoms turns o after)
    c.in-None.is c.in_ok-end.ensures.goes in
    let count : suc c.searching.searches ≡ c.searching.searches + 1 = omega arith in (
      subst (λ n. VainSoFar leaves problem tables goal variable_count recorded start n turns after) count
          (vain-next leaves problem tables goal variable_count recorded start c.searching.searches before turns atoms after c.searching.invariant.0
          once),
      c.in_ok-end.ensures.facts,
      c.search_and_run.ensures.rules ∙ c.searching.invariant.2,
      admit-both (g.W.World.admits c.args.world.now) (g.W.World.admits c.searching.world) (g.W.World.admits c.search_and_run.new.world)
          c.searching.invariant.3 c.search_and_run.ensures.edits,
    )
