use Rattle.std.specs.Prelude.{◌-◌, Some, IsTrue}
use Rattle.px_match.specs.Asking.{IsLeft}
use Rattle.px_match.specs.Reasons.{Grown}
use Rattle.px_match.proofs.meeting.is_none_left.Given as goal

abbrev pub invariant-loop-object : goal.invariant-loop-object
invariant-loop-object l =
    Grown l.initial.cells l.cells × (IsTrue l.is_blamed → IsLeft l.question l.cells l.work l.place l.later 0 (Some l.from))

abbrev pub decreases-loop-object : goal.decreases-loop-object
decreases-loop-object l = 4294967296 - l.from
