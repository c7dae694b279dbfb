use Rattle.std.proofs.Common.{◌∙◌, sym}
use Rattle.px_prover.proofs.Keeping.{recent-there}
use Rattle.px_prover.proofs.patterns.is_recent.Goals as goal

pub returns : goal.returns
returns c = λ has. recent-there c.saturating_sub-first.result c.args.found.now c.args.pattern.now (sym c.contains.ensures.value ∙ has)
