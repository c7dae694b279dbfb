use Rattle.std.proofs.Common.{◌≡◌, ◌++◌, ◌+◌, drop, map}
use Rattle.std.specs.Prelude.{string_bytes}
use Rattle.px_printer.specs.declared.spelling.Spelling.TheVariants.{InRows}
use Rattle.px_printer.specs.Texts.{instance_text, numbered_lines}
use Rattle.px_printer.proofs.text.push_steps.Given as goal

abbrev pub invariant-loop-index : goal.invariant-loop-index
invariant-loop-index l = string_bytes l.text ++ numbered_lines (l.index + 1) (map (instance_text l.names (InRows 0)) (drop l.index l.steps))
    ≡ string_bytes l.initial.text ++ numbered_lines 1 (map (instance_text l.names (InRows 0)) l.steps)
