use Rattle.std.specs.Prelude.{◌≡◌, ◌<◌, ◌≤◌, ℕ, length}
use Rattle.std.proofs.Common.{get_or}
use Rattle.px_ops.specs.ModelValue.{ModelValue}
use Rattle.px_table.specs.declared.mark.Mark.{Mark}
use Rattle.px_match.specs.Keeping.{IsPutIn}
use Rattle.px_match.proofs.keeping.put_into.Given as goal

abbrev pub invariant-loop-at : goal.invariant-loop-at
invariant-loop-at l =
    (length l.lists ≡ length l.initial.lists)
    × ((k : ℕ) (d : ModelValue) (m : Mark) → k < l.at
    → IsPutIn (get_or l.marks k m).atom l.atom (get_or l.initial.lists k d) (get_or l.lists k d))
    × ((k : ℕ) (d : ModelValue) → l.at ≤ k → get_or l.lists k d ≡ get_or l.initial.lists k d)
