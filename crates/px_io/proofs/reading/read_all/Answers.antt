use Rattle.std.proofs.Common.{◌++◌, take, arith}
use Rattle.std.proofs.lemmas.Grind.{common_steps}
use Rattle.std.proofs.KnownBytes.{Consumes-trans}
use Rattle.px_io.proofs.reading.read_all.Goals as goal

pub returns-then-limit-len-clause-gone : goal.returns-then-limit-len-clause-gone
returns-then-limit-len-clause-gone g c = (
  c.loop-count.bytes.items ++ take c.in-Ok.count c.read.new.into,
  Consumes-trans _ _ _ _ _ c.loop-count.invariant.0 c.in-Ok.ensures.bytes.0,
  grind (arith, common_steps),
)

pub returns-in_err-extend_from_slice-clause-gone : goal.returns-in_err-extend_from_slice-clause-gone
returns-in_err-extend_from_slice-clause-gone g c = (
  c.loop-count.bytes.items ++ take c.in-Ok.count c.read.new.into,
  Consumes-trans _ _ _ _ _ c.loop-count.invariant.0 c.in-Ok.ensures.bytes.0,
  grind (arith, common_steps),
)
