-- What the loop of `read_cert` in src/reading.rt keeps true, and why it ends.
use Rattle.px_cert.specs.Sound.{lines_left}
use Rattle.px_cert.proofs.Reaching.{Reached}
use Rattle.px_cert.proofs.reading.read_cert.Given as goal

abbrev pub invariant-loop-alloc : goal.invariant-loop-alloc
invariant-loop-alloc l = Reached l.bytes l.draft l.rest l.line

abbrev pub decreases-loop-alloc : goal.decreases-loop-alloc
decreases-loop-alloc l = lines_left l.draft.due
