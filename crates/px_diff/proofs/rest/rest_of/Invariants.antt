use Rattle.std.proofs.Common.{take}
use Rattle.px_entries.specs.Rest.{IsRest}
use Rattle.px_diff.proofs.rest.rest_of.Given as goal

abbrev pub invariant-loop-atom : goal.invariant-loop-atom
invariant-loop-atom l = IsRest l.problem (take l.atom-index l.formula) l.rest.items
