use Rattle.std.proofs.Common.{ℕ, ◌<◌, get_or}
use Rattle.px_terms.specs.declared.instance.OpInst.{OpInst}
use Rattle.px_terms.specs.Sorts.{IsWellSorted}
use Rattle.px_table.specs.Kernels.{instance_under}
use Rattle.px_diff.proofs.prefix_macros.all_fit.Given as goal

abbrev pub invariant-loop-step : goal.invariant-loop-step
invariant-loop-step l =
    (k : ℕ) (d : OpInst) → k < l.step-index → IsWellSorted l.problem (instance_under l.sigma (get_or l.steps k d))
