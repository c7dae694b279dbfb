-- The problem of a building has the rules of its world.
use Rattle.std.specs.Prelude.{◌≡◌, ◌+◌, List, length}
use Rattle.std.proofs.Common.{refl, sym, ◌∙◌, subst}
use Rattle.px_terms.specs.declared.problem.Problem.{Problem}
use Rattle.px_world.specs.declared.thing.Thing.{Thing}
use Rattle.px_world.specs.Worlds.{HaveSameRules}
use Rattle.px_rooms.specs.Domain.{building_problem}
use Rattle.px_rooms.specs.States.{RoomState, building_rules, first_state, standings}

pub same_rules : (things : List Thing) (world : RoomState) (problem given : Problem) → world ≡ first_state things
    → problem ≡ building_problem (length (standings things) + 1) 4 10000 10000 → given ≡ problem
    → HaveSameRules (building_rules world) given
same_rules things world problem given begins is same =
    subst (λ (state : RoomState). HaveSameRules (building_rules state) given) (sym begins)
    (subst (HaveSameRules (building_rules (first_state things))) (sym is ∙ sym same)
    (record { objects = refl; axioms = refl; schemas = refl }))
