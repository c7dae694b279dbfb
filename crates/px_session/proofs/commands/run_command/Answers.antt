use Rattle.std.specs.Prelude.{List, map, All, Contains}
use Rattle.std.proofs.Common.{sym, ap, ◌∙◌, subst, arith}
use Rattle.std.proofs.lemmas.List.{append-nil}
use Rattle.px_world.specs.declared.edits.AtomEdit.{AtomEdit}
use Rattle.px_world.specs.declared.edits.RoomEdit.{RoomEdit}
use Rattle.px_script.specs.declared.command.Command.{Command}
use Rattle.px_script.specs.Ranges.{result_given}
use Rattle.px_session.specs.OwnStates.{edits_given}
use Rattle.px_session.specs.RunWorlds.{Takes}
use Rattle.px_session.specs.Sessions.{of_atoms, of_rooms}
use Rattle.px_session.proofs.Placing.{placed-note}
use Rattle.px_session.proofs.commands.run_command.Goals as goal

pub edit-requires-clause-new_name : goal.edit-requires-clause-new_name
edit-requires-clause-new_name c =
    let new = subst (λ (given : Command). All (λ name. ¬ Contains c.args.state.now.learned.names name) (result_given given)) c.in-Edit.is
    c.requires.new_names in
    new 0 0 (omega arith)

pub returns-in_ok-edits-in-DisturbAtoms-clause-placed :
    goal.returns-in_ok-edits-in-DisturbAtoms-clause-placed
returns-in_ok-edits-in-DisturbAtoms-clause-placed c =
    let given = subst (λ (one : Command). All (Takes c.args.building.now) (edits_given one)) c.in-DisturbAtoms.is
    c.requires.runnable.1.taken in
    let made = c.in_ok-edits-in-DisturbAtoms.ensures ∙ append-nil (map of_atoms c.as_slice-in-DisturbAtoms.result.now)
    ∙ ap (λ (edits : List AtomEdit). map of_atoms edits) c.as_slice-in-DisturbAtoms.ensures in
    placed-note c.args.problem.now c.args.building.now c.args.state.now c.note.new.self c.in-DisturbAtoms.turn c.in-DisturbAtoms.between
    c.in_ok-edits-in-DisturbAtoms.edits c.note.result c.requires.placed (subst (All (Takes c.args.building.now)) (sym made) given)
    c.note.ensures.told

pub returns-in_ok-edits-in-DisturbRooms-clause-placed :
    goal.returns-in_ok-edits-in-DisturbRooms-clause-placed
returns-in_ok-edits-in-DisturbRooms-clause-placed c =
    let given = subst (λ (one : Command). All (Takes c.args.building.now) (edits_given one)) c.in-DisturbRooms.is
    c.requires.runnable.1.taken in
    let made = c.in_ok-edits-in-DisturbRooms.ensures
    ∙ ap (λ (edits : List RoomEdit). map of_rooms edits) c.as_slice-in-DisturbRooms.ensures in
    placed-note c.args.problem.now c.args.building.now c.args.state.now c.note-in-DisturbRooms.new.self c.in-DisturbRooms.turn
    c.in-DisturbRooms.between c.in_ok-edits-in-DisturbRooms.edits c.note-in-DisturbRooms.result c.requires.placed
    (subst (All (Takes c.args.building.now)) (sym made) given) c.note-in-DisturbRooms.ensures.told
