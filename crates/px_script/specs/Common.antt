-- What the definitions here take from std and from other crates.
pub use Rattle.px_names.specs.Lists.{has_name, NameLists, no_names, AreDistinct}
pub use Rattle.px_rooms.specs.Changes.{IsAdmitted}
pub use Rattle.px_rooms.specs.Domain.{building_problem, RoomOperator, RoomPredicate, robot_name, room_operators, room_predicates, closed, connects, in_room, is_box, is_door, is_room}
pub use Rattle.px_rooms.specs.States.{first_state, rendering, IsBoxAt, IsBuilding, IsDoorAt, IsDoorOrNone, RoomState, StandsRight, thing_at, IsRoomAt, standings}
pub use Rattle.px_terms.specs.AtomSets.{atom_set, IsAtomSet}
pub use Rattle.px_terms.specs.Validity.{IsTermOf, IsPatternTermOf, IsAtomOf, IsValid}
pub use Rattle.px_terms.specs.declared.atom.Atom.{Atom}
pub use Rattle.px_terms.specs.declared.clause.Clause.{Clause}
pub use Rattle.px_terms.specs.declared.clause.Lit.{Lit}
pub use Rattle.px_terms.specs.declared.instance.OpInst.{OpInst}
pub use Rattle.px_terms.specs.declared.problem.Problem.{Problem}
pub use Rattle.px_terms.specs.declared.problem.Schema.{Schema}
pub use Rattle.px_terms.specs.declared.term.Term.{Term}
pub use Rattle.px_terms.specs.declared.term.Term.TheVariants.{Obj, Var, Any}
pub use Rattle.px_world.specs.declared.edits.AtomEdit.{AtomEdit}
pub use Rattle.px_world.specs.declared.edits.RoomEdit.{RoomEdit}
pub use Rattle.px_world.specs.declared.thing.Thing.{Thing}
