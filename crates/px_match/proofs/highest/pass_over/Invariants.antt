use Rattle.std.specs.Prelude.{◌≤◌, ◌<◌, ℕ, List, All, Contains}
use Rattle.px_table.specs.Kernels.{kernel_under}
use Rattle.px_match.proofs.highest.pass_over.Given as goal

abbrev pub invariant-loop-passed : goal.invariant-loop-passed
invariant-loop-passed l =
    (l.next ≤ l.number)
    × ((i : ℕ) (objects : List ℕ) → l.next < i → i ≤ l.number → ¬ All (Contains l.model.atoms) (kernel_under l.table objects i))
