use Rattle.std.proofs.Common.{Some}
use Rattle.px_match.proofs.Left.{left_then}
use Rattle.px_match.proofs.meeting.is_none_left.Goals as goal

pub loop-object-preserved : goal.loop-object-preserved
loop-object-preserved c = (
  λ k is. c.least_left_by_marks.ensures.grown k (c.loop-object.invariant.0 k is),
  λ blamed.
      left_then c.args.question.now c.args.work.now c.args.place c.args.later c.loop-object.cells c.least_left_by_marks.new.cells 0
      c.loop-object.from (Some c.in-Some.object) c.least_left_by_marks.ensures.grown (c.loop-object.invariant.1 blamed)
      (c.in-Some.ensures.left blamed),
)
