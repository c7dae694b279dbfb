use Rattle.px_session.proofs.OneTranscript.{answers_are_one}
use Rattle.px_session.proofs.laws.answers_are_one.Goals as goal

pub returns : goal.returns
returns c = answers_are_one
