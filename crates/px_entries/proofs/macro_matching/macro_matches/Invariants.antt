use Rattle.std.proofs.Common.{[], take, map, length}
use Rattle.px_table.specs.Kernels.{instance_under}
use Rattle.px_terms.specs.Operators.{IsAdded}
use Rattle.px_gaps.specs.Closings.{OneOf}
use Rattle.px_entries.specs.Parameters.{Matches}
use Rattle.px_entries.proofs.macro_matching.macro_matches.Given as goal

abbrev pub invariant-loop-atom : goal.invariant-loop-atom
invariant-loop-atom l =
    Matches l.problem.objects (length l.start) l.start
    (λ sigma. OneOf (take l.atom-index l.wanted) (IsAdded l.problem (map (instance_under sigma) l.steps))) [] l.found.items
