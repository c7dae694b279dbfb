use Rattle.std.specs.Prelude.{◌≤◌, Some, IsTrue}
use Rattle.px_match.specs.Asking.{IsLeft}
use Rattle.px_match.specs.Reasons.{Grown}
use Rattle.px_match.proofs.meeting.least_left_by_marks.Given as goal

abbrev pub invariant-loop-number : goal.invariant-loop-number
invariant-loop-number l =
    Grown l.initial.cells l.cells × (l.from ≤ l.object)
    × (IsTrue l.is_blamed → IsLeft l.question l.cells l.work l.place l.later l.from (Some l.object))
