use Rattle.std.proofs.Common.{ap, subst}
use Rattle.std.specs.Prelude.{IfOk}
use Rattle.px_session.specs.Opened.{SessionValue}
use Rattle.px_run.specs.Sums.{IsSumOf}
use Rattle.px_run.proofs.demo.summary.Goals as goal

pub session_summary-text-requires : goal.session_summary-text-requires
session_summary-text-requires c = record { start = ap (λ (s : SessionValue). s.done) c.in-Ok.ensures.opened }

pub returns-in-Ok : goal.returns-in-Ok
returns-in-Ok c =
    subst (λ (s : SessionValue). IfOk c.session_summary-text.result
    (λ text. IsSumOf c.args.rooms c.args.seed s text.items)) c.in-Ok.ensures.opened
    c.session_summary-text.ensures
