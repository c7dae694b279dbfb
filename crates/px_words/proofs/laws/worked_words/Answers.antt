use Rattle.px_words.proofs.WorkedOut.{worked_words}
use Rattle.px_words.proofs.laws.worked_words.Goals as goal

pub returns : goal.returns
returns c = worked_words
