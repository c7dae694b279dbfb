use Rattle.px_question.proofs.DeterminedLaws.{gap_lists-are_one as the_law}
use Rattle.px_question.proofs.laws.gap_lists_are_one.Goals as goal

pub returns : goal.returns
returns c = the_law
