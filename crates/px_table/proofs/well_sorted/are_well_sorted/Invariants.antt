use Rattle.std.proofs.Common.{ℕ, ◌<◌, get_or}
use Rattle.px_terms.specs.declared.instance.OpInst.{OpInst}
use Rattle.px_table.specs.WellSorted.{IsWellSortedStep}
use Rattle.px_table.proofs.well_sorted.are_well_sorted.Given as goal

abbrev pub invariant-loop-inst : goal.invariant-loop-inst
invariant-loop-inst l = (k : ℕ) (d : OpInst) → k < l.inst-index → IsWellSortedStep l.problem l.param_sorts (get_or l.steps k d)
