use Rattle.px_support.proofs.Supporting.{moves_support}
use Rattle.px_support.proofs.laws.moves_have_supports.Goals as goal

pub returns : goal.returns
returns c = moves_support c.answers_support.ensures
