use Rattle.px_question.proofs.FirstOfEachLaws.{first-is_of_each as the_law}
use Rattle.px_question.proofs.laws.first_is_of_each.Goals as goal

pub returns : goal.returns
returns c = the_law
