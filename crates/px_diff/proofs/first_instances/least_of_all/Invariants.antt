use Rattle.std.proofs.Common.{take}
use Rattle.px_terms.specs.declared.instance.OpInst.{OpInst}
use Rattle.px_diff.specs.Firsts.{IsNotAfter}
use Rattle.px_entries.specs.Instances.{IsCovered}
use Rattle.px_diff.proofs.first_instances.least_of_all.Given as goal

abbrev pub invariant-loop-partial : goal.invariant-loop-partial
invariant-loop-partial l =
    IsNotAfter l.least l.fn.inst × ((full : OpInst) → IsCovered l.problem (take l.partial-index l.partials) full → IsNotAfter l.least full)
