use Rattle.px_causes.proofs.Common.{declared_of, statement_view, stage_view}
use Rattle.px_causes.proofs.Late.{told-found, told-none}
use Rattle.px_so_far.proofs.Carried.{carried}
use Rattle.px_causes.proofs.causes.fault.Goals as goal

pub returns-clause-found : goal.returns-clause-found
returns-clause-found c = carried c.early_fault.result _ _
    (told-found (stage_view c.args.stage.now) (declared_of c.args.so_far.now) (statement_view c.args.statement)) c.early_fault.ensures

pub returns-clause-none : goal.returns-clause-none
returns-clause-none c = carried c.early_fault.result _ _
    (told-none (stage_view c.args.stage.now) (declared_of c.args.so_far.now) (statement_view c.args.statement)) c.early_fault.ensures
