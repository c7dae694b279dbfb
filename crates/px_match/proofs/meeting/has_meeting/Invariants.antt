use Rattle.px_match.specs.Reasons.{Grown}
use Rattle.px_match.proofs.meeting.has_meeting.Given as goal

abbrev pub invariant-loop-number : goal.invariant-loop-number
invariant-loop-number l = Grown l.initial.cells l.cells
