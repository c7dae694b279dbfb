use Rattle.std.proofs.Common.{refl}
use Rattle.px_base.specs.Sets.{set_of, with_item}
use Rattle.px_rooms.proofs.Wanted.{kind_facts, two_rooms_are}
use Rattle.px_rooms.proofs.laws.worked_building.Goals as goal

pub returns-clause-states : goal.returns-clause-states
unfolding set_of with_item
returns-clause-states c = record { building = two_rooms_are; first = refl; first_facts = refl; later_facts = refl }

pub returns-clause-kinds : goal.returns-clause-kinds
returns-clause-kinds c = kind_facts

pub returns-clause-actions : goal.returns-clause-actions
unfolding set_of with_item
returns-clause-actions c = record {
  go_to_box = record { met = refl; left = refl; facts = refl };
  go_to_door = record { met = refl; left = refl; facts = refl };
  open_door = record { met = refl; left = refl; facts = refl };
  close_door = record { met = refl; left = refl; facts = refl };
  go_through = record { met = refl; left = refl; facts = refl };
  push_to_door = record { met = refl; left = refl; facts = refl };
  push_through = record { met = refl; left = refl; facts = refl };
  closed_door = refl;
}

pub returns-clause-edits : goal.returns-clause-edits
unfolding set_of with_item
returns-clause-edits c = record {
  robot = record { left = refl; facts = refl };
  robot_same_room = record { left = refl; facts = refl };
  box = record { left = refl; facts = refl };
  box_same_room = record { left = refl; facts = refl };
  box_elsewhere = record { left = refl; facts = refl };
  door = record { left = refl; facts = refl };
  door_same = record { left = refl; facts = refl };
}
