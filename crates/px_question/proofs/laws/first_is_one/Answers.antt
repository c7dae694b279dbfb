use Rattle.px_question.proofs.FirstLaws.{first-is_one as the_law}
use Rattle.px_question.proofs.laws.first_is_one.Goals as goal

pub returns : goal.returns
returns c = the_law
