use Rattle.std.specs.Prelude.{length}
use Rattle.std.proofs.Common.{refl}
use Rattle.px_match.specs.Asking.{IsFitFor}
use Rattle.px_match.proofs.Floors.{floors_first}
use Rattle.px_match.proofs.turns.search.Goals as goal

pub loop-next-init : goal.loop-next-init
loop-next-init c = (
  refl,
  c.requires.work,
  c.requires.place,
  floors_first (IsFitFor c.args.question.now) (length c.args.work.now) c.make_all_stale.new.cells c.args.work.now
      c.make_all_stale.ensures,
)
