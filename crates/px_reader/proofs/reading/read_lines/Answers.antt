use Rattle.px_reader.proofs.Common.{nothing_declared, lines-kept, start-in-range, declared-in-range, stage_view, declared_of}
use Rattle.px_so_far.proofs.ProblemLemmas.{closed-problem}
use Rattle.px_reader.proofs.reading.read_lines.Goals as goal

pub finish-requires-clause-range : goal.finish-requires-clause-range
finish-requires-clause-range c = declared-in-range _
    (lines-kept (stage_view c.args.stage.now) 1 nothing_declared _ _ start-in-range c.in_ok-read_closed.ensures.passes)
    c.in_ok-read_closed.ensures.closed

pub finish-requires-clause-problem : goal.finish-requires-clause-problem
finish-requires-clause-problem c = closed-problem _
    (lines-kept (stage_view c.args.stage.now) 1 nothing_declared _ _ start-in-range c.in_ok-read_closed.ensures.passes)
    c.in_ok-read_closed.ensures.closed

pub returns-in-Ok-clause-script : goal.returns-in-Ok-clause-script
returns-in-Ok-clause-script c = record {
  last = declared_of c.read_closed.new.so_far;
  passes = c.in_ok-read_closed.ensures.passes;
  closed = c.in_ok-read_closed.ensures.closed;
  is = c.in-Ok.ensures;
}
