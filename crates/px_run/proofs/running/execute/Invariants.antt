use Rattle.std.proofs.Common.{◌≡◌, List}
use Rattle.px_printer.specs.declared.reply.Reply.{Reply}
use Rattle.px_session.specs.Transcripts.{texts}
use Rattle.px_run.specs.Outcomes.{sink_ends, Wrote}
use Rattle.px_run.proofs.AnswerLemmas.{IsSoFar}
use Rattle.px_run.proofs.running.execute.Given as goal

abbrev pub invariant-loop-place : goal.invariant-loop-place
invariant-loop-place g l = (answers : List Reply)
    × IsSoFar l.fn.session l.session l.place answers
    × Wrote (sink_ends g.K.Sink.written g.K.Sink.faults g.K.Sink.sure l.fn.sink l.sink) (texts l.fn.session.names answers)
    × (g.K.Sink.sure l.sink ≡ g.K.Sink.sure l.fn.sink)
