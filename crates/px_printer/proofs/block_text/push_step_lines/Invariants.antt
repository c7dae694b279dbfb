use Rattle.std.proofs.Common.{◌≡◌, ◌++◌, take}
use Rattle.std.specs.List.{flat_map}
use Rattle.std.specs.Prelude.{string_bytes}
use Rattle.px_printer.specs.Blocks.{step_line}
use Rattle.px_printer.proofs.block_text.push_step_lines.Given as goal

abbrev pub invariant-loop-inst : goal.invariant-loop-inst
invariant-loop-inst l =
    string_bytes l.text ≡ string_bytes l.initial.text ++ flat_map (step_line l.names l.spelling) (take l.inst-index l.steps)
