use Rattle.std.proofs.Common.{◌≡◌, [], take}
use Rattle.px_proof_walk.proofs.Trails.{led_to, shapes_along}
use Rattle.px_proof_walk.proofs.visit.shapes_of.Given as goal

abbrev pub invariant-loop-visit : goal.invariant-loop-visit
invariant-loop-visit l = record {
  there : l.ticks.items ≡ led_to [] (take l.visit-index l.trail);
  made : l.shapes.items ≡ shapes_along [] (take l.visit-index l.trail);
}
