use Rattle.px_reader.proofs.LineLemmas.{marked, unmarked}
use Rattle.px_reader.proofs.reading.without_mark.Goals as goal

pub returns-in-Some : goal.returns-in-Some
returns-in-Some c = let is = c.in-Some.ensures.cases in marked c.args.text.now is.0 c.in-Some.rest.now is.1 is.2

pub returns-in-None : goal.returns-in-None
returns-in-None c = unmarked c.args.text.now c.in-None.ensures.cases
