use Rattle.px_run.proofs.OneText.{texts_are_one}
use Rattle.px_run.proofs.laws.texts_are_one.Goals as goal

pub returns : goal.returns
returns c = texts_are_one
