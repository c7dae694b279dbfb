use Rattle.std.proofs.Common.{length}
use Rattle.px_entries.specs.Parameters.{Matches}
use Rattle.px_entries.proofs.LeftAdds.{AddedBefore}
use Rattle.px_entries.proofs.macro_matching.match_steps.Given as goal

abbrev pub invariant-loop-place : goal.invariant-loop-place
invariant-loop-place l =
    Matches l.problem.objects (length l.start) l.start
    (λ sigma. AddedBefore l.problem l.wanted sigma l.steps l.place) l.initial.found.items l.found.items
