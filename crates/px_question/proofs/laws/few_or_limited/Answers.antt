use Rattle.px_question.proofs.DeterminedLaws.{few_or_limited as the_law}
use Rattle.px_question.proofs.laws.few_or_limited.Goals as goal

pub returns : goal.returns
returns c = the_law
