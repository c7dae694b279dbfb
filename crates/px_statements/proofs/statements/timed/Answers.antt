use Rattle.px_statements.proofs.Common.{◌∙◌}
use Rattle.px_statements.proofs.Times.{same-time}
use Rattle.px_statements.proofs.statements.timed.Goals as goal

pub returns-in-Some : goal.returns-in-Some
returns-in-Some c = c.edits.ensures ∙ same-time c.args.with_building c.args.turn c.args.time.now c.args.last.now c.in-Some.between
    (rw c.in-Some.is at c.between_of.ensures)
