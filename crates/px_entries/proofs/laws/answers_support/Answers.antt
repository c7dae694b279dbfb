use Rattle.px_entries.proofs.AnswerRowLaws.{answers-support}
use Rattle.px_entries.proofs.laws.answers_support.Goals as goal

pub returns : goal.returns
returns c = answers-support
