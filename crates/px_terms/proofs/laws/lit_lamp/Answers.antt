use Rattle.px_terms.proofs.LampLaws.{lamp_shines}
use Rattle.px_terms.proofs.laws.lit_lamp.Goals as goal

pub returns : goal.returns
returns c = lamp_shines
