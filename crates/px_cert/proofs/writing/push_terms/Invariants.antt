use Rattle.std.proofs.Common.{◌≡◌, ◌++◌, take}
use Rattle.std.specs.Prelude.{string_bytes}
use Rattle.std.specs.List.{flat_map}
use Rattle.px_cert.specs.Lines.{term_item}
use Rattle.px_cert.proofs.writing.push_terms.Given as goal

abbrev pub invariant-loop-term : goal.invariant-loop-term
invariant-loop-term l = string_bytes l.text ≡ string_bytes l.initial.text ++ flat_map term_item (take l.term-index l.terms)
