use Rattle.px_general.proofs.OneGeneral.{general_is_one}
use Rattle.px_general.proofs.laws.general_is_one.Goals as goal

pub returns : goal.returns
returns c = general_is_one
