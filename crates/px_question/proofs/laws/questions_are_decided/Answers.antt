use Rattle.px_question.proofs.DecidedLaws.{questions-are_decided as the_law}
use Rattle.px_question.proofs.laws.questions_are_decided.Goals as goal

pub returns : goal.returns
returns c = the_law
