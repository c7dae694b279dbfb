use Rattle.px_general.proofs.ExistingGeneral.{generals_exist}
use Rattle.px_general.proofs.laws.generals_exist.Goals as goal

pub returns : goal.returns
returns c = generals_exist
