use Rattle.px_session.proofs.OneTranscript.{transcripts_are_one}
use Rattle.px_session.proofs.laws.transcripts_are_one.Goals as goal

pub returns : goal.returns
returns c = transcripts_are_one
