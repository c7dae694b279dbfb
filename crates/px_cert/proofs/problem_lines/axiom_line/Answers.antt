use Rattle.px_cert.proofs.LineRooms.{axiom_is_clause, axiom_room}
use Rattle.px_cert.proofs.problem_lines.axiom_line.Goals as goal

pub add_axiom-requires-clause-room : goal.add_axiom-requires-clause-room
add_axiom-requires-clause-room c = axiom_room c.args.draft.now c.args.more c.requires.due c.requires.sound

pub add_axiom-requires-clause-clause : goal.add_axiom-requires-clause-clause
add_axiom-requires-clause-clause c =
    axiom_is_clause c.args.draft.now c.in_ok-rest.rest.now c.in_ok-made.made c.in_ok-made.rest.now c.requires.sound c.in_ok-made.ensures
