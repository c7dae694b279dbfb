use Rattle.std.proofs.Common.{◌≡◌, ℕ, List, length}
use Rattle.px_io.specs.Writing.{AppendsPrefix}
use Rattle.px_io.proofs.writing.put.Given as goal

abbrev pub invariant-loop-rest : goal.invariant-loop-rest
invariant-loop-rest g l =
    ((prefix : List ℕ) × AppendsPrefix (g.K.Sink.written l.fn.sink) (g.K.Sink.written l.sink) l.bytes prefix l.rest)
    × (g.K.Sink.faults l.sink ≡ g.K.Sink.faults l.fn.sink) × (g.K.Sink.sure l.sink ≡ g.K.Sink.sure l.fn.sink)

abbrev pub decreases-loop-rest : goal.decreases-loop-rest
decreases-loop-rest g l = length l.rest
