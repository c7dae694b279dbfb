use Rattle.std.specs.Prelude.{◌-◌, length}
use Rattle.px_match.proofs.keeping.meets.Given as goal

abbrev pub decreases-loop-place : goal.decreases-loop-place
decreases-loop-place l = length l.atoms - l.place
