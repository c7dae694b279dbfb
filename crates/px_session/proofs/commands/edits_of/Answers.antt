use Rattle.std.proofs.Common.{◌∙◌, ◌++◌, List, map, refl, sym, ap}
use Rattle.std.proofs.lemmas.List.{append-nil, take_all}
use Rattle.px_session.specs.Sessions.{Edit, of_atoms, of_rooms}
use Rattle.px_session.proofs.Noting.{both-next, map-next}
use Rattle.px_session.proofs.commands.edits_of.Goals as goal

pub loop-atom-preserved : goal.loop-atom-preserved
loop-atom-preserved c =
    map-next of_atoms c.args.atoms.now c.loop-atom.made.items c.push.new.items.items c.loop-atom.atom-index c.atom-item.result
    c.atom-item.result c.loop-atom-test.true c.atom-item.is
    c.loop-atom.invariant c.in_ok-push.ensures.ok

pub loop-room-init : goal.loop-room-init
loop-room-init c =
    c.loop-atom.invariant ∙ ap (map of_atoms) (take_all c.loop-atom.atom-index c.args.atoms.now c.loop-atom-test.false)
    ∙ sym (append-nil (map of_atoms c.args.atoms.now))

pub loop-room-preserved : goal.loop-room-preserved
loop-room-preserved c =
    both-next of_rooms (map of_atoms c.args.atoms.now) c.args.rooms.now c.loop-room.made.items c.push-in-loop-room.new.items.items
    c.loop-room.room-index
    _ _ c.loop-room-test.true refl
    c.loop-room.invariant c.in_ok-push-2.ensures.ok

pub returns : goal.returns
returns c =
    c.from_vec.ensures ∙ c.loop-room.invariant
    ∙ ap (λ (rooms : List Edit). map of_atoms c.args.atoms.now ++ rooms)
    (ap (map of_rooms) (take_all c.loop-room.room-index c.args.rooms.now c.loop-room-test.false))
