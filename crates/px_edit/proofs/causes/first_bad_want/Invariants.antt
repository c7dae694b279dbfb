use Rattle.std.proofs.Common.{◌<◌, ℕ}
use Rattle.px_edit.specs.EditCauses.{IsBadWantAt}
use Rattle.px_edit.proofs.causes.first_bad_want.Given as goal

abbrev pub invariant-loop-place : goal.invariant-loop-place
invariant-loop-place l = (earlier : ℕ) → earlier < l.place → ¬ IsBadWantAt l.problem l.table l.prefix l.wanted earlier
