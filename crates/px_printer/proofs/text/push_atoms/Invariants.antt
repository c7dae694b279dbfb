use Rattle.std.proofs.Common.{◌≡◌, ◌++◌, take, map}
use Rattle.std.specs.Prelude.{string_bytes}
use Rattle.px_printer.specs.declared.spelling.Spelling.TheVariants.{InRows}
use Rattle.px_printer.specs.Texts.{atom_text, indented_lines}
use Rattle.px_printer.proofs.text.push_atoms.Given as goal

abbrev pub invariant-loop-atom : goal.invariant-loop-atom
invariant-loop-atom l = string_bytes l.text ≡ string_bytes l.initial.text
    ++ indented_lines (map (atom_text l.names (InRows 0)) (take l.atom-index l.atoms))
