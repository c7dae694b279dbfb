use Rattle.std.proofs.Common.{◌≡◌, ◌++◌, take}
use Rattle.std.specs.Prelude.{string_bytes}
use Rattle.std.specs.List.{flat_map}
use Rattle.px_cert.specs.Lines.{number_item}
use Rattle.px_cert.proofs.writing.push_arities.Given as goal

abbrev pub invariant-loop-arity : goal.invariant-loop-arity
invariant-loop-arity l = string_bytes l.text ≡ string_bytes l.initial.text ++ flat_map number_item (take l.arity-index l.arities)
