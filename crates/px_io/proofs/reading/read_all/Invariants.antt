use Rattle.std.proofs.Common.{◌≡◌, ◌+◌, ◌-◌, ◌≤◌, length}
use Rattle.std.specs.Io.KnownBytes.{Consumes}
use Rattle.px_io.proofs.reading.read_all.Given as goal

abbrev pub invariant-loop-count : goal.invariant-loop-count
invariant-loop-count g l =
    Consumes (g.S.Source.left l.fn.source) (g.S.Source.left l.source) l.bytes.items
    × (g.S.Source.taken l.source ≡ g.S.Source.taken l.fn.source + length l.bytes.items) × (length l.bytes.items ≤ l.limit)
    × (g.S.Source.faults l.source ≡ g.S.Source.faults l.fn.source) × (g.S.Source.never_fails l.source ≡ g.S.Source.never_fails l.fn.source)

abbrev pub decreases-loop-count : goal.decreases-loop-count
decreases-loop-count g l = l.limit - length l.bytes.items
