use Rattle.std.proofs.Common.{◌∙◌, sym}
use Rattle.px_diff.proofs.FirstOrder.{at_most-itself, lesser-first, lesser-second}
use Rattle.px_diff.proofs.first_instances.lesser.Goals as goal

pub returns-then-lt-clause-first : goal.returns-then-lt-clause-first
returns-then-lt-clause-first c = at_most-itself c.args.first

pub returns-then-lt-clause-second : goal.returns-then-lt-clause-second
returns-then-lt-clause-second c = lesser-first c.args.first c.args.second (sym c.lt.ensures ∙ c.if-lt.true)

pub returns-else-lt-clause-first : goal.returns-else-lt-clause-first
returns-else-lt-clause-first c = lesser-second c.args.first c.args.second (sym c.lt.ensures ∙ c.if-lt.false)

pub returns-else-lt-clause-second : goal.returns-else-lt-clause-second
returns-else-lt-clause-second c = at_most-itself c.args.second
