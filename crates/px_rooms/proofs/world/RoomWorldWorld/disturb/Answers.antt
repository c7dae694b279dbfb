use Rattle.std.proofs.Common.{ap, ◌∙◌}
use Rattle.px_rooms.specs.States.{rendering}
use Rattle.px_rooms.proofs.Actions.{edit-leaves, edit-number, left-admits}
use Rattle.px_rooms.proofs.world.RoomWorldWorld.disturb.Goals as goal

pub change-requires-clause-state : goal.change-requires-clause-state
change-requires-clause-state c = (edit-leaves c.args.self.now c.args.edit.now c.known.ensures.state c.requires.admitted).left.state

pub change-requires-clause-count : goal.change-requires-clause-count
change-requires-clause-count c = (edit-leaves c.args.self.now c.args.edit.now c.known.ensures.state c.requires.admitted).left.count

pub returns-clause-atoms : goal.returns-clause-atoms
returns-clause-atoms c =
    ap rendering c.change.ensures ∙ (edit-leaves c.args.self.now c.args.edit.now c.known.ensures.state c.requires.admitted).facts

pub returns-clause-number : goal.returns-clause-number
returns-clause-number c =
    edit-number c.args.edit.now c.args.self.now c.change.new.self
    (ap rendering c.change.ensures ∙ (edit-leaves c.args.self.now c.args.edit.now c.known.ensures.state c.requires.admitted).facts)

pub returns-clause-admitted : goal.returns-clause-admitted
returns-clause-admitted c =
    left-admits c.args.self.now _ c.change.new.self c.change.ensures
    (edit-leaves c.args.self.now c.args.edit.now c.known.ensures.state c.requires.admitted).left
