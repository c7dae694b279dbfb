use Rattle.std.proofs.Common.{◌≡◌, ◌++◌, take, map}
use Rattle.std.specs.Prelude.{string_bytes}
use Rattle.px_printer.specs.declared.spelling.Spelling.TheVariants.{InRows}
use Rattle.px_printer.specs.Texts.{after_spaces, instance_text}
use Rattle.px_printer.proofs.tree_text.push_steps.Given as goal

abbrev pub invariant-loop-inst : goal.invariant-loop-inst
invariant-loop-inst l = string_bytes l.text ≡ string_bytes l.initial.text
    ++ after_spaces (map (instance_text l.names (InRows 0)) (take l.inst-index l.steps))
