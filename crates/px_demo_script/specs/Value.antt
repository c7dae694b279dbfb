-- What the demo's script is about.
use Rattle.std.specs.Prelude.{◌≤◌, ◌+◌, ◌-◌, ◌*◌, ℕ, true, List, [], ◌∷◌, ◌++◌, Some, codes, length, map, replicate}
use Rattle.std.specs.Fmt.{decimal}
use Rattle.std.specs.List.{flat_map, range_with_len}
use Rattle.px_demo.specs.Errands.{room_after}
use Rattle.px_demo.specs.Limits.{least_rooms, most_rooms}
use Rattle.px_demo.specs.Script.{demo_script}
use Rattle.px_rooms.specs.Domain.{building_problem, in_room, robot, robot_name}
use Rattle.px_rooms.specs.States.{first_state, rendering}
use Rattle.px_terms.specs.declared.term.Term.TheVariants.{Obj}
use Rattle.px_world.specs.declared.thing.Thing.{Thing}
use Rattle.px_world.specs.declared.thing.Thing.TheVariants as thing
use Rattle.px_script.specs.Content.{ScriptValue}
use Rattle.px_script.specs.Declarations.{operator_names, predicate_names}
use Rattle.px_script.specs.Limits.{default_nodes}
use Rattle.px_script.specs.Scripts.{IsScript}
use Rattle.px_script.specs.Stages.{stage_now}
use Rattle.px_script.specs.declared.command.Command.{Command}
use Rattle.px_script.specs.declared.command.Command.TheVariants.{Plan, Learn, Run}
use Rattle.px_script.specs.declared.limits.TheConstants.{DEFAULT_HEIGHT as default_height, DEFAULT_SHAPES as default_shapes}

-- ---- the building

-- the letter with each number from 1 on, so many of them
abbrev pub numbered : List ℕ → ℕ → List (List ℕ)
numbered letter count = map (λ k. letter ++ decimal k) (range_with_len 1 count)

-- The robot is object 0, and room k is object k.
abbrev pub demo_objects : ℕ → List (List ℕ)
demo_objects rooms = robot_name ∷ (numbered (codes "R") rooms ++ (numbered (codes "D") (rooms - 1) ++ codes "B1" ∷ []))

-- open doors from each room to the next, a box in the second room, and the robot in the first
abbrev pub demo_things : ℕ → List Thing
demo_things rooms = replicate rooms thing.Room
    ++ (map (λ k. thing.Door k (k + 1) true) (range_with_len 1 (rooms - 1)) ++ thing.Box 2 ∷ thing.Robot 1 ∷ [])

-- ---- the errands

-- the names of an errand's plan and of its learned table, and the number of the first
abbrev pub errand_results : ℕ → List (List ℕ)
errand_results j = (codes "G" ++ decimal j) ∷ (codes "M" ++ decimal j) ∷ []

abbrev pub plan_number : ℕ → ℕ
plan_number j = 2 * (j - 1)

-- an errand to a room: a plan, which is learned and run
abbrev pub errand_commands : ℕ → ℕ → List Command
errand_commands j room = Plan (plan_number j) (in_room robot (Obj room) ∷ []) 0 ∷ Learn (plan_number j + 1) (plan_number j)
    ∷ Run (plan_number j) [] ∷ []

-- ---- the whole

abbrev pub demo_value : ℕ → ℕ → ScriptValue
demo_value rooms seed = record {
  version = 1;
  names = record {
    objects = demo_objects rooms;
    predicates = predicate_names;
    operators = operator_names;
    results = flat_map errand_results (range_with_len 1 rooms);
  };
  problem = building_problem (length (demo_objects rooms)) default_height (default_nodes 1) default_shapes;
  facts = rendering (first_state (demo_things rooms));
  building = Some (demo_things rooms);
  saved = [];
  commands = flat_map (λ j. errand_commands j (room_after rooms seed j)) (range_with_len 1 rooms);
}

-- the bytes of each demo are the script of its value, whatever the seed
abbrev pub DemoIsScript : Type 0
DemoIsScript = (rooms seed : ℕ) → least_rooms ≤ rooms → rooms ≤ most_rooms → IsScript stage_now (demo_script rooms seed) (demo_value rooms seed)
