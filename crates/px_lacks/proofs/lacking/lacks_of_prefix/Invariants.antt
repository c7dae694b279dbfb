-- What the loop of `lacks_of_prefix` in src/lacking.rt keeps true.
use Rattle.std.proofs.Common.{take}
use Rattle.px_table.specs.Kernels.{steps_under}
use Rattle.px_lacks.proofs.RowSums.{AreCounted}
use Rattle.px_lacks.proofs.lacking.lacks_of_prefix.Given as goal

abbrev pub invariant-loop-place : goal.invariant-loop-place
invariant-loop-place l =
    AreCounted l.problem l.table l.sigma (take l.prefix (steps_under l.table l.sigma)) l.model.atoms l.place l.facts.atoms l.count
