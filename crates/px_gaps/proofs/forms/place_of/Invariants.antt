use Rattle.std.proofs.Common.{◌≡◌, ◌+◌, drop}
use Rattle.px_gaps.specs.Forms.{place_in}
use Rattle.px_gaps.proofs.forms.place_of.Given as goal

abbrev pub invariant-loop-place : goal.invariant-loop-place
invariant-loop-place l = l.place + place_in (drop l.place l.args) l.term ≡ place_in l.args l.term
