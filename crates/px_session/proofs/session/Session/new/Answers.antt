use Rattle.std.proofs.Common.{◌<◌, ℕ, List, length, map, sym, ◌∙◌, subst}
use Rattle.std.specs.Prelude.{Option}
use Rattle.px_base.specs.Bounds.{u32_max}
use Rattle.px_world.specs.declared.thing.Thing.{Thing}
use Rattle.px_rooms.specs.States.{IsBuilding, RoomState}
use Rattle.px_script.specs.ReadScripts.{content}
use Rattle.px_script.specs.Ranges.{IsBuildingOf}
use Rattle.px_session.specs.KeptSessions.{IsKeptSession}
use Rattle.px_session.specs.Opened.{SessionValue}
use Rattle.px_session.specs.Sessions.{SessionState, opening}
use Rattle.px_table.specs.declared.table.Table.{Table}
use Rattle.px_session.proofs.Executing.{kept-opened}
use Rattle.px_session.proofs.GivenNames.{saved-apart}
use Rattle.px_session.proofs.RoomEdits.{each-building, few-things, first-read, read-building}
use Rattle.px_session.proofs.session.Session.new.Goals as goal

pub world_of-requires-clause-buildings : goal.world_of-requires-clause-buildings
world_of-requires-clause-buildings c =
    let script = content c.args.script in
    read-building IsBuilding c.args.script.building
    (each-building (IsBuildingOf script.names script.problem script.facts) IsBuilding script.building
    (λ things is. is.is_building) c.args.script.in_range.building)

pub world_of-requires-clause-short : goal.world_of-requires-clause-short
world_of-requires-clause-short c =
    let script = content c.args.script in
    let range = c.args.script.in_range in
    let IsShort : List Thing → Type 0 = λ things. length things < u32_max in
    read-building IsShort c.args.script.building
    (each-building (IsBuildingOf script.names script.problem script.facts) IsShort script.building
    (λ things is. few-things script.version script.names script.problem script.facts things range.names.few_objects is)
    range.building)

pub opening-requires-clause-once : goal.opening-requires-clause-once
opening-requires-clause-once c =
    let script = content c.args.script in
    saved-apart (map (λ (one : ℕ × Table). one.0) script.saved) script.commands (length script.names.results)
    c.args.script.in_range.commands.given

pub opening-requires-clause-few : goal.opening-requires-clause-few
opening-requires-clause-few c = c.args.script.in_range.few_saved

pub invariant_of-result : goal.invariant_of-result
invariant_of-result c =
    let script = c.args.script in
    let Session : SessionState → SessionValue =
    λ state. record {
      problem = script.problem;
      names = script.names;
      commands = script.commands;
      done = 0;
      state = state;
    } in
    let opened = kept-opened (content script) script.in_range c.are_names.ensures in
    let built = subst (λ (building : Option RoomState). IsKeptSession building (Session (opening (content script).facts (content script).saved)))
    (sym (c.in_ok-building.ensures ∙ first-read script.building)) opened in
    subst (λ (state : SessionState). IsKeptSession c.in_ok-building.building (Session state)) (sym c.in_ok-state.ensures) built
