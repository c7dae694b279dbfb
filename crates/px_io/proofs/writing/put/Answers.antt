use Rattle.std.proofs.Common.{◌++◌, take, append_assoc, arith}
use Rattle.std.proofs.lemmas.Grind.{common_steps}
use Rattle.std.proofs.KnownBytes.{Appends-trans}
use Rattle.px_io.proofs.writing.put.Goals as goal

-- what was written before, and then the front that this write took
pub loop-rest-preserved : goal.loop-rest-preserved
loop-rest-preserved g c = (
  (
    c.loop-rest.invariant.0.0 ++ take c.in-Ok.count c.loop-rest.rest.now,
    record {
      whole = grind (arith, common_steps, append_assoc, c.loop-rest.invariant.0.1.whole);
      appended = Appends-trans _ _ _ _ _ c.loop-rest.invariant.0.1.appended c.in-Ok.ensures.bytes;
    },
  ),
  grind (arith, common_steps),
  grind (arith, common_steps),
)
