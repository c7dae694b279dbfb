use Rattle.std.specs.Prelude.{◌<◌, length}
use Rattle.px_gaps.proofs.PartLemmas.{ArePartly}
use Rattle.px_gaps.proofs.apart.apart.Given as goal

abbrev pub decreases-loop-next : goal.decreases-loop-next
decreases-loop-next l = length l.parts.others.items

abbrev pub invariant-loop-next : goal.invariant-loop-next
invariant-loop-next l = record {
  partly : ArePartly l.terms l.atoms l.reached.items l.parts;
  fewer : length l.parts.others.items < length l.atoms;
}
