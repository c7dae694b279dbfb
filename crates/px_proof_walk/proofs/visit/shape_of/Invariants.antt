use Rattle.std.proofs.Common.{◌≡◌, ◌++◌, replicate}
use Rattle.px_proof.specs.declared.shape.Tick.TheVariants.{Open}
use Rattle.px_proof_walk.proofs.visit.shape_of.Given as goal

abbrev pub invariant-loop : goal.invariant-loop
invariant-loop l = l.all.items ≡ l.ticks ++ replicate l.counter Open
