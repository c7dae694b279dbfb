use Rattle.std.proofs.Common.{◌≡◌, ◌++◌, map, take}
use Rattle.px_prover.specs.PatternLists.{list_under}
use Rattle.px_prover.proofs.listing.push_under.Given as goal

abbrev pub invariant-loop-tuple : goal.invariant-loop-tuple
invariant-loop-tuple l = l.lists.items ≡ l.fn.lists.items ++ map (list_under l.pattern) (take l.tuple-index l.tuples)
