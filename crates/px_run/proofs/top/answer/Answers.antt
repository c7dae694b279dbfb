use Rattle.std.proofs.Common.{[], ap, subst}
use Rattle.px_session.specs.Opened.{SessionValue}
use Rattle.px_run.specs.Outcomes.{sink_ends, ExecutedRight}
use Rattle.px_run.proofs.AnswerLemmas.{begun-none, wrote-none}
use Rattle.px_run.proofs.top.answer.Goals as goal

pub execute-status-requires : goal.execute-status-requires
execute-status-requires g c = record { start = ap (λ (s : SessionValue). s.done) c.in-Ok.ensures.opened }

pub returns-in-Ok-clause-right : goal.returns-in-Ok-clause-right
returns-in-Ok-clause-right g c =
    subst (λ (s : SessionValue).
    ExecutedRight s (sink_ends g.K.Sink.written g.K.Sink.faults g.K.Sink.sure c.args.sink.now c.execute-status.new.sink) c.execute-status.result)
    c.in-Ok.ensures.opened c.execute-status.ensures.right

pub returns-in-Err-clause-right : goal.returns-in-Err-clause-right
returns-in-Err-clause-right g c = ([], begun-none _, wrote-none _ _ _)
