use Rattle.std.proofs.Common.{List}
use Rattle.px_printer.specs.declared.reply.Reply.{Reply}
use Rattle.px_run.specs.Sums.{IsCountOf}
use Rattle.px_run.proofs.AnswerLemmas.{IsSoFar}
use Rattle.px_run.proofs.counts.counted.Given as goal

abbrev pub invariant-loop-place : goal.invariant-loop-place
invariant-loop-place l = (answers : List Reply) × IsSoFar l.fn.session l.session l.place answers × IsCountOf answers l.counts
