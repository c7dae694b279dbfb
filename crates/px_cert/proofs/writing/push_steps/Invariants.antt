use Rattle.std.proofs.Common.{◌≡◌, ◌++◌, take}
use Rattle.std.specs.Prelude.{string_bytes}
use Rattle.std.specs.List.{flat_map}
use Rattle.px_cert.specs.Lines.{action, line_bytes}
use Rattle.px_cert.proofs.writing.push_steps.Given as goal

abbrev pub invariant-loop-inst : goal.invariant-loop-inst
invariant-loop-inst l = string_bytes l.text ≡ string_bytes l.initial.text ++ flat_map (λ inst. line_bytes (action inst)) (take l.inst-index l.insts)
