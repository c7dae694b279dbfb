use Rattle.std.specs.Prelude.{◌≡◌, ◌-◌, ℕ, length}
use Rattle.px_match.specs.Keeping.{AreKept}
use Rattle.px_match.proofs.Renewed.{AreFound}
use Rattle.px_match.proofs.keeping.take_gone.Given as goal

abbrev pub invariant-loop-at : goal.invariant-loop-at
invariant-loop-at l =
    (length l.lists ≡ length l.initial.lists)
    × AreFound l.new.atoms l.kept.atoms l.at
    × ((room : ℕ) → AreKept room l.marks l.initial.kept l.initial.lists → AreKept room l.marks l.kept l.lists)

abbrev pub decreases-loop-at : goal.decreases-loop-at
decreases-loop-at l = length l.kept.atoms - l.at
