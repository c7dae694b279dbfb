use Rattle.std.proofs.Common.{◌≡◌, ◌<◌, ◌≤◌, List, length}
use Rattle.px_proof.specs.declared.shape.Tick.{Tick}
use Rattle.px_proof_walk.specs.Search.{AreSeen}
use Rattle.px_proof_walk.proofs.Trails.{Follows}
use Rattle.px_proof_walk.proofs.gather.walk_to_end.Given as goal

abbrev pub invariant-loop-count : goal.invariant-loop-count
invariant-loop-count g l = record {
  within : l.count < l.limit;
  stands : g.W.Walk.stands l.question l.walk;
  short : length (g.W.Walk.ticks l.walk) ≤ l.count;
  here : g.W.Walk.possible l.question (g.W.Walk.ticks l.walk);
  visits : (seen : List (List Tick)) × Follows (g.W.Walk.places l.question) l.trail.items seen (g.W.Walk.ticks l.walk)
      × (length seen ≡ l.count)
      × AreSeen (g.W.Walk.possible l.question) (λ ticks. ⊥) seen (g.W.Walk.ticks l.walk)
      × g.G.Gather.gathered l.question l.gather seen;
}
