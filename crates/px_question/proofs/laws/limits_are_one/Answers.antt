use Rattle.px_question.proofs.DeterminedLaws.{limits-are_one as the_law}
use Rattle.px_question.proofs.laws.limits_are_one.Goals as goal

pub returns : goal.returns
returns c = the_law
