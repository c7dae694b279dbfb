-- The first state of a building, with its problem, is a world.
use Rattle.std.specs.Prelude.{◌≡◌, ◌<◌, ◌+◌, ℕ, None, List, [], ◌∷◌, length, All}
use Rattle.std.proofs.Common.{sym, ap, ◌∙◌, arith}
use Rattle.px_base.specs.Bounds.{u32_max}
use Rattle.px_terms.specs.declared.problem.Problem.{Problem}
use Rattle.px_world.specs.declared.thing.Thing.{Thing}
use Rattle.px_rooms.specs.declared.standing.Standing.{Standing}
use Rattle.px_rooms.specs.Domain.{building_problem}
use Rattle.px_rooms.specs.States.{IsRoomAt, IsRoomWorld, StandsRight, robot_rooms, standings}
use Rattle.px_rooms.proofs.Starting.{objects_are}

pub first-world : (things given : List Thing) (room : ℕ) (first : List Standing) (rules : Problem) (n : ℕ) → given ≡ things
    → length things < u32_max → robot_rooms given ≡ room ∷ []
    → first ≡ standings given → IsRoomAt first room → All (StandsRight first) first → rules ≡ building_problem n 1 1 2 → n ≡ length given
    → IsRoomWorld rules (record { robot_room = room; robot_beside = None; things = first })
first-world things given room first rules n same short single are at right made count =
    let number : n ≡ length first + 1 =
    count ∙ objects_are given (ap length single) ∙ ap (λ (xs : List Standing). length xs + 1) (sym are) in record {
      is_state = record { robot_room = at; robot_beside = tt; things = right };
      rules = made ∙ ap (λ k. building_problem k 1 1 2) number;
      few = omega (arith, short, number, count, ap length same);
    }
