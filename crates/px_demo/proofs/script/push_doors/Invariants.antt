use Rattle.std.proofs.Common.{◌≡◌, ◌+◌, ◌-◌, ◌++◌, map}
use Rattle.std.specs.Prelude.{string_bytes}
use Rattle.std.specs.List.{range_with_len}
use Rattle.px_demo.specs.Script.{door_line, text_of_lines}
use Rattle.px_demo.proofs.script.push_doors.Given as goal

-- the lines so far, and those that are left
abbrev pub invariant-loop-door : goal.invariant-loop-door
invariant-loop-door l =
    string_bytes l.text ++ text_of_lines (map door_line (range_with_len l.door (l.count + 1 - l.door)))
    ≡ string_bytes l.initial.text ++ text_of_lines (map door_line (range_with_len 1 l.count))
