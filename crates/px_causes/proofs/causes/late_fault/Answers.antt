use Rattle.px_causes.proofs.Common.{declared_of, statement_view}
use Rattle.px_causes.proofs.Late.{late-limit}
use Rattle.px_causes.proofs.causes.late_fault.Goals as goal

pub returns-in-Some : goal.returns-in-Some
returns-in-Some c = late-limit (declared_of c.args.so_far.now) (statement_view c.args.statement) c.in-Some.limit
    (rw c.in-Some.is at c.in_ok-limit.ensures)
