-- The demo of three rooms computes.
use Rattle.std.proofs.Common.{refl}
use Rattle.std.specs.Fmt.{digits}
use Rattle.px_demo.specs.Worked.{WorkedDemo}

pub worked_demo : WorkedDemo
unfolding digits
worked_demo = record { numbers = refl; near = refl; three = refl; four = refl; script = refl }
