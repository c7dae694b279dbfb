-- What the loop of `Estimates::needs` in src/estimates.rt keeps true.
use Rattle.px_table.specs.declared.node.Node.{Node}
use Rattle.px_numbers.specs.Numbers.{IsKeyOf}
use Rattle.px_support.specs.Asking.{task_for}
use Rattle.px_search.specs.Estimating.{AreCounted}
use Rattle.px_search.proofs.StackSums.{IsSummed}
use Rattle.px_search.proofs.estimates.Estimates.needs.Given as goal

abbrev pub invariant-loop-frame : goal.invariant-loop-frame
invariant-loop-frame l = record {
  counted : AreCounted (task_for l.asked) l.numbers l.self;
  summed : (node : Node) × IsKeyOf l.numbers l.key node × IsSummed (task_for l.asked) l.numbers node l.rest l.count;
}

abbrev pub decreases-loop-frame : goal.decreases-loop-frame
decreases-loop-frame l = l.rest
