use Rattle.px_question.proofs.GapOrderLaws.{gap_lists_are_ordered as the_law}
use Rattle.px_question.proofs.laws.gap_lists_are_ordered.Goals as goal

pub returns : goal.returns
returns c = the_law
