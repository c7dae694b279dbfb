use Rattle.std.proofs.Common.{ap, ◌∙◌, sym, subst}
use Rattle.px_terms.specs.Operators.{result_of}
use Rattle.px_rooms.specs.Following.{IsMet}
use Rattle.px_rooms.specs.States.{building_rules, rendering}
use Rattle.px_rooms.proofs.Actions.{action-leaves, left-admits, left-rules}
use Rattle.px_rooms.proofs.world.RoomWorld.follow.Goals as goal

pub take-requires-clause-state : goal.take-requires-clause-state
take-requires-clause-state c =
    (action-leaves c.args.self.now c.known.ensures.state c.action_of-action.result
    (subst (IsMet c.args.self.now) c.action_of-action.ensures c.requires.met)).left.state

pub take-requires-clause-count : goal.take-requires-clause-count
take-requires-clause-count c =
    (action-leaves c.args.self.now c.known.ensures.state c.action_of-action.result
    (subst (IsMet c.args.self.now) c.action_of-action.ensures c.requires.met)).left.count

pub returns-clause-moved : goal.returns-clause-moved
returns-clause-moved c = record { action = c.action_of-action.result; by_action = c.action_of-action.ensures; left = c.take.ensures }

pub returns-clause-acted : goal.returns-clause-acted
returns-clause-acted c =
    ap rendering c.take.ensures
    ∙ (action-leaves c.args.self.now c.known.ensures.state c.action_of-action.result
    (subst (IsMet c.args.self.now) c.action_of-action.ensures c.requires.met)).facts
    ∙ ap (result_of (building_rules c.args.self.now) (rendering c.args.self.now)) (sym c.action_of-action.ensures)

pub returns-clause-rules : goal.returns-clause-rules
returns-clause-rules c =
    left-rules c.args.self.now _ c.take.new.self c.take.ensures
    (action-leaves c.args.self.now c.known.ensures.state c.action_of-action.result
    (subst (IsMet c.args.self.now) c.action_of-action.ensures c.requires.met)).left

pub returns-clause-admitted : goal.returns-clause-admitted
returns-clause-admitted c =
    left-admits c.args.self.now _ c.take.new.self c.take.ensures
    (action-leaves c.args.self.now c.known.ensures.state c.action_of-action.result
    (subst (IsMet c.args.self.now) c.action_of-action.ensures c.requires.met)).left
