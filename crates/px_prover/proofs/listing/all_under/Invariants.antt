use Rattle.std.proofs.Common.{◌≡◌, take}
use Rattle.px_prover.specs.PatternLists.{all_under}
use Rattle.px_prover.proofs.listing.all_under.Given as goal

abbrev pub invariant-loop-pattern : goal.invariant-loop-pattern
invariant-loop-pattern l = l.lists.items ≡ all_under l.objects (take l.pattern-index l.patterns)
