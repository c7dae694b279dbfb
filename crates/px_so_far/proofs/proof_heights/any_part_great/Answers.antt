use Rattle.px_so_far.proofs.Common.{◌∙◌}
use Rattle.px_so_far.proofs.ProofHeights.{great-parts}
use Rattle.px_so_far.proofs.proof_heights.any_part_great.Goals as goal

pub returns : goal.returns
returns c = c.each_part_great.ensures ∙ great-parts c.args.parts.now _
