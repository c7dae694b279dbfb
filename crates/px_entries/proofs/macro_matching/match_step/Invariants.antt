use Rattle.std.proofs.Common.{take, length}
use Rattle.px_terms.specs.Operators.{adds}
use Rattle.px_gaps.specs.Closings.{OneOf}
use Rattle.px_entries.specs.Parameters.{IsLeftAdd, Matches}
use Rattle.px_entries.proofs.macro_matching.match_step.Given as goal

abbrev pub invariant-loop-place : goal.invariant-loop-place
invariant-loop-place l =
    Matches l.problem.objects (length l.start) l.start
    (λ sigma. OneOf (take l.place (adds l.problem l.step)) (IsLeftAdd l.problem l.later l.wanted sigma)) l.initial.found.items l.found.items
