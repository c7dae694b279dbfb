use Rattle.px_match.proofs.Walked.{walked_past}
use Rattle.px_match.proofs.filling.least.Goals as goal

pub returns-then-is_past-clause-at_most : goal.returns-then-is_past-clause-at_most
returns-then-is_past-clause-at_most c =
    walked_past c.args.work.now c.args.place c.args.from c.args.mark.now c.args.atoms.now c.loop-at.at c.index-atoms-at.result
    c.loop-at.best c.requires.set c.loop-at-test.true c.index-atoms-at.is
    (c.is_past.ensures c.if-is_past.true) c.loop-at.invariant.1
