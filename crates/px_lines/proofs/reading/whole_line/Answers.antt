use Rattle.px_lines.proofs.Views.{known-word}
use Rattle.px_lines.proofs.reading.whole_line.Goals as goal

pub returns-in-Some-2-clause-word : goal.returns-in-Some-2-clause-word
returns-in-Some-2-clause-word c = λ version known.
    known-word version c.args.with_building c.args.word.now c.in-Some.row c.in-Some.ensures known
