use Rattle.px_reader.proofs.Common.{lit<, strip_suffix_char}
use Rattle.px_reader.proofs.LineLemmas.{unreturned}
use Rattle.px_reader.proofs.reading.without_return.Goals as goal

pub returns-in-None : goal.returns-in-None
returns-in-None c = unreturned c.args.line.now
    (rw c.in-None.is at (strip_suffix_char 13 c.args.line.now c.strip_suffix.result c.strip_suffix.ensures.cases (lit< tt)))
