use Rattle.std.proofs.Common.{◌≡◌, ◌++◌, take, map}
use Rattle.std.specs.Prelude.{string_bytes}
use Rattle.px_printer.specs.Texts.{after_spaces, atom_text}
use Rattle.px_printer.proofs.table_text.push_after_spaces.Given as goal

abbrev pub invariant-loop-atom : goal.invariant-loop-atom
invariant-loop-atom l = string_bytes l.text ≡ string_bytes l.initial.text
    ++ after_spaces (map (atom_text l.names l.spelling) (take l.atom-index l.atoms))
