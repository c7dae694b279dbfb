use Rattle.px_causes.proofs.Common.{◌∙◌}
use Rattle.px_causes.proofs.Pairs.{great-pairs}
use Rattle.px_causes.proofs.limits.any_great.Goals as goal

pub returns : goal.returns
returns c = c.each_great.ensures ∙ great-pairs c.args.pairs.now
