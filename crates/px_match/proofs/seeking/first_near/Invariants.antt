use Rattle.std.specs.Prelude.{◌≤◌, ◌-◌, length}
use Rattle.px_match.specs.Seeking.{IsNoneBefore}
use Rattle.px_match.proofs.seeking.first_near.Given as goal

abbrev pub invariant-loop-low : goal.invariant-loop-low
invariant-loop-low l = (l.high ≤ length l.atoms) × IsNoneBefore l.work l.place l.from l.mark l.atoms l.low

abbrev pub decreases-loop-low : goal.decreases-loop-low
decreases-loop-low l = l.high - l.low
