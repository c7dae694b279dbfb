use Rattle.std.proofs.Common.{take, map}
use Rattle.std.specs.Fmt.{HasWritten, IsPlainFormatter}
use Rattle.px_printer.specs.Texts.{term_text, after_commas}
use Rattle.px_printer.proofs.shown.write_rest.Given as goal

abbrev pub invariant-loop-term : goal.invariant-loop-term
invariant-loop-term g l =
    IsPlainFormatter l.initial.f → HasWritten g.W.Write.write_str_gives l.initial.f
    (after_commas (map (term_text l.names l.spelling) (take l.term-index l.terms))) l.f
