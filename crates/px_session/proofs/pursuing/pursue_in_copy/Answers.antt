use Rattle.std.specs.Prelude.{List, Option, map}
use Rattle.std.proofs.Common.{sym, ◌∙◌, subst}
use Rattle.px_terms.specs.declared.atom.Atom.{Atom}
use Rattle.px_terms.specs.declared.problem.Problem.{Problem}
use Rattle.px_world.specs.Worlds.{HaveSameRules}
use Rattle.px_rooms.specs.States.{RoomState}
use Rattle.px_pursue.specs.Pursuits.{IsPursuit}
use Rattle.px_turns.specs.Told.{turn_told}
use Rattle.px_session.specs.RunWorlds.{IsWorldInBuilding, TakeSame, TakesAll, building_of, run_world_atoms, run_world_rules}
use Rattle.px_session.specs.Sessions.{leaves_edit}
use Rattle.px_session.proofs.Placing.{place-left}
use Rattle.px_session.proofs.pursuing.pursue_in_copy.Goals as goal

pub enter-requires-clause-place : goal.enter-requires-clause-place
enter-requires-clause-place c =
    subst (IsWorldInBuilding c.args.problem.now c.args.facts.now.atoms) (sym c.in_ok-copy.ensures) c.requires.place

pub pursue-requires-clause-admitted : goal.pursue-requires-clause-admitted
pursue-requires-clause-admitted c =
    subst (λ (b : Option RoomState). TakesAll b c.args.recorded.now) (sym (c.in_ok-world.ensures.building ∙ c.in_ok-copy.ensures))
    c.requires.taken

pub returns-clause-pursues : goal.returns-clause-pursues
returns-clause-pursues c =
    let made = c.in_ok-made.made in
    let pursues = λ (before after : List Atom). IsPursuit leaves_edit c.args.problem.now c.args.tables.now c.args.goal.now c.args.variable_count
    c.args.recorded.now before made.searches (map turn_told made.turns) made.end after in
    subst (λ (before : List Atom). pursues before made.facts.atoms) c.in_ok-world.ensures.atoms
    (subst (λ (after : List Atom). pursues (run_world_atoms c.in_ok-world.world) after) (sym c.in_ok-made.ensures.facts)
    c.in_ok-made.ensures.pursues)

pub returns-clause-place : goal.returns-clause-place
returns-clause-place c =
    let problem = c.args.problem.now in
    let world = c.pursue.new.world in
    let rules : HaveSameRules (run_world_rules world) problem = subst (λ (p : Problem). HaveSameRules p problem)
    (sym c.in_ok-made.ensures.rules) c.in_ok-world.ensures.rules in
    subst (λ (atoms : List Atom). IsWorldInBuilding problem atoms c.leave.result) (sym c.in_ok-made.ensures.facts)
    (subst (λ (building : Option RoomState). IsWorldInBuilding problem (run_world_atoms world) building) (sym c.leave.ensures)
    (place-left problem world rules))

pub returns-clause-takes : goal.returns-clause-takes
returns-clause-takes c =
    subst (TakeSame c.args.building.now) (sym c.leave.ensures)
    (subst (λ (b : Option RoomState). TakeSame b (building_of c.pursue.new.world))
    (c.in_ok-world.ensures.building ∙ c.in_ok-copy.ensures) c.in_ok-made.ensures.edits)
