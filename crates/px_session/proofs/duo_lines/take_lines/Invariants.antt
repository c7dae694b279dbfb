use Rattle.std.proofs.Common.{◌≡◌, ◌≤◌, length}
use Rattle.std.specs.Prelude.{vec_capacity}
use Rattle.px_session.proofs.DuosUnderway.{AreUnderway}
use Rattle.px_session.proofs.duo_lines.take_lines.Given as goal

abbrev pub invariant-loop-place : goal.invariant-loop-place
invariant-loop-place l = AreUnderway l.fn.duo l.numbers l.fn.world l.place l.taken.items l.duo l.world
    × (length l.taken.items ≡ l.place) × (length l.numbers ≤ vec_capacity l.taken)
