use Rattle.std.proofs.Common.{◌≡◌, ◌≤◌, ◌+◌, ◌-◌, ◌++◌}
use Rattle.std.specs.Prelude.{string_bytes}
use Rattle.std.specs.List.{flat_map, range_with_len}
use Rattle.px_demo.specs.Errands.{number_after, room_after}
use Rattle.px_demo.specs.Limits.{most_seed}
use Rattle.px_demo.specs.Script.{errand_lines, errands, text_of_lines}
use Rattle.px_demo.proofs.script.push_errands.Given as goal

-- the lines so far, and those that are left; and where the numbers and the robot are
abbrev pub invariant-loop-done : goal.invariant-loop-done
invariant-loop-done l =
    (string_bytes l.text ++ text_of_lines
    (flat_map (λ j. errand_lines j (room_after l.rooms l.seed j)) (range_with_len (l.done + 1) (l.rooms - l.done)))
    ≡ string_bytes l.initial.text ++ text_of_lines (errands l.rooms l.seed))
    × (l.number ≡ number_after l.seed l.done) × (l.room ≡ room_after l.rooms l.seed l.done)
    × (l.number ≤ most_seed) × (1 ≤ l.room) × (l.room ≤ l.rooms)
