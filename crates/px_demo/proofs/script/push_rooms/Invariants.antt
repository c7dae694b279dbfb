use Rattle.std.proofs.Common.{◌≡◌, ◌+◌, ◌-◌, ◌++◌, map}
use Rattle.std.specs.Prelude.{string_bytes}
use Rattle.std.specs.List.{range_with_len}
use Rattle.px_demo.specs.Script.{room_line, text_of_lines}
use Rattle.px_demo.proofs.script.push_rooms.Given as goal

-- the lines so far, and those that are left
abbrev pub invariant-loop-room : goal.invariant-loop-room
invariant-loop-room l =
    string_bytes l.text ++ text_of_lines (map room_line (range_with_len l.room (l.count + 1 - l.room)))
    ≡ string_bytes l.initial.text ++ text_of_lines (map room_line (range_with_len 1 l.count))
