use Rattle.std.proofs.Common.{◌≡◌, ◌++◌, ◌+◌, drop}
use Rattle.std.specs.Prelude.{string_bytes}
use Rattle.px_printer.specs.Turns.{turn_lines}
use Rattle.px_printer.proofs.turn_text.push_turns.Given as goal

abbrev pub invariant-loop-index : goal.invariant-loop-index
invariant-loop-index l = string_bytes l.text ++ turn_lines l.names (l.index + 1) (drop l.index l.turns) ≡ string_bytes l.initial.text
    ++ turn_lines l.names 1 l.turns
