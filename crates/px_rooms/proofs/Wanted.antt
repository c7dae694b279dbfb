-- Which lists of things are buildings, and which edits are admitted, in the worked building; and its problem.
use Rattle.std.specs.Prelude.{◌≡◌, ◌≢◌, ◌<◌, ◌+◌, ℕ, false, None, List, [], ◌∷◌, length}
use Rattle.std.proofs.Common.{refl, sym, ap, ◌∙◌, subst, arith}
use Rattle.std.proofs.lemmas.List.Elements.{All-nil, All-cons}
use Rattle.px_base.specs.Bounds.{u32_max}
use Rattle.px_terms.specs.declared.instance.OpInst.{OpInst}
use Rattle.px_terms.specs.declared.problem.Problem.{Problem}
use Rattle.px_terms.specs.Validity.{IsInstanceOf}
use Rattle.px_world.specs.declared.thing.Thing.{Thing}
use Rattle.px_world.specs.declared.thing.Thing.TheVariants as thing
use Rattle.px_rooms.specs.declared.standing.Standing.{Standing}
use Rattle.px_rooms.specs.declared.standing.Standing.TheVariants.{Room as a_room, Door as a_door, Box as a_box}
use Rattle.px_rooms.specs.Domain.{building_problem}
use Rattle.px_rooms.specs.States.{IsBuilding, RoomState, StandsRight, building_rules, first_state, standings}
use Rattle.px_rooms.specs.WorkedBuilding.{KindFacts, two_rooms}

different : (one other : ℕ) → one < other → one ≢ other
different one other less e = omega (arith, less, e)

abbrev right : Standing → Type 0
right = StandsRight (standings two_rooms)

pub two_rooms_are : IsBuilding two_rooms
two_rooms_are = (
  refl,
  record {
    robot_room = refl;
    robot_beside = tt;
    things = All-cons right a_room (a_room ∷ a_door 1 2 false ∷ a_box 1 None ∷ []) tt
        (All-cons right a_room (a_door 1 2 false ∷ a_box 1 None ∷ []) tt
        (All-cons right (a_door 1 2 false) (a_box 1 None ∷ []) (refl, refl, different 1 2 (omega arith))
        (All-cons right (a_box 1 None) [] (refl, tt) (All-nil right))));
  },
)

pub any_order : IsBuilding (thing.Robot 2 ∷ thing.Box 2 ∷ thing.Room ∷ [])
any_order = (
  refl,
  record {
    robot_room = refl;
    robot_beside = tt;
    things = All-cons (StandsRight (a_box 2 None ∷ a_room ∷ [])) (a_box 2 None) (a_room ∷ []) (refl, tt)
        (All-cons (StandsRight (a_box 2 None ∷ a_room ∷ [])) a_room [] tt (All-nil (StandsRight (a_box 2 None ∷ a_room ∷ []))));
  },
)

pub kind_facts : KindFacts
kind_facts = record {
  any_order = any_order;
  no_robot = λ is. omega (arith, is.0);
  two_robots = λ is. omega (arith, is.0);
  robot_in_itself = λ is. let e = is.1.robot_room in cc;
  robot_nowhere = λ is. let e = is.1.robot_room in cc;
  box_in_a_box = λ is. let e = (is.1.things 1 a_room (omega arith)).0 in cc;
  one_sided_door = λ is. (is.1.things 1 a_room (omega arith)).2 refl;
  box_admitted = ((1, None, refl), refl);
  door_no_box = λ is. let e = is.0.2 in cc;
  door_no_room = λ is. let e = is in cc;
  room_no_door = λ is. let e = is.3 in cc;
}

pub two_rooms_by : (things : List Thing) → things ≡ two_rooms → IsBuilding things
two_rooms_by things is = subst IsBuilding (sym is) two_rooms_are

pub two_rooms_short : (things : List Thing) → things ≡ two_rooms → length things < u32_max
two_rooms_short things is = omega (arith, ap length is)

-- the first state's problem is that of the building
pub same_rules : (things : List Thing) (state : RoomState) (problem : Problem) → state ≡ first_state things
    → problem ≡ building_problem (length (standings things) + 1) 1 1 2
    → building_rules state ≡ problem
same_rules things state problem is made = ap building_rules is ∙ sym made

-- an instance of an operator is one where the rules are the same
pub instance_here : (rules problem : Problem) (inst : OpInst) → rules ≡ problem → IsInstanceOf problem inst → IsInstanceOf rules inst
instance_here rules problem inst same is = subst (λ p. IsInstanceOf p inst) (sym same) is
