use Rattle.std.specs.Prelude.{Some}
use Rattle.std.proofs.Common.{arith}
use Rattle.px_match.proofs.Left.{left_then}
use Rattle.px_match.proofs.meeting.least_left_by_marks.Goals as goal

pub loop-number-preserved : goal.loop-number-preserved
loop-number-preserved c = (
  λ k is. c.least_left.ensures.grown k (c.loop-number.invariant.0 k is),
  omega (arith, c.loop-number.invariant.1, c.in-Some-least_left.ensures.at_least),
  λ is_blamed. left_then c.args.question.now c.args.work.now c.args.place c.args.later c.loop-number.cells c.least_left.new.cells
      c.args.from c.loop-number.object (Some c.in-Some-least_left.next)
      c.least_left.ensures.grown (c.loop-number.invariant.2 is_blamed) (c.in-Some-least_left.ensures.left is_blamed),
)
