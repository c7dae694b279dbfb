use Rattle.std.proofs.Common.{length}
use Rattle.px_search.proofs.cache.Cache.+offered_each.Given as goal

abbrev pub decreases-offered_each : goal.decreases-offered_each
decreases-offered_each l = length l.gaps.now
