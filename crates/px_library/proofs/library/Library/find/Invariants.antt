use Rattle.px_library.proofs.Finding.{IsOtherBefore}
use Rattle.px_library.proofs.library.Library.find.Given as goal

abbrev pub invariant-loop-place : goal.invariant-loop-place
invariant-loop-place l = IsOtherBefore l.self.names l.place l.name
