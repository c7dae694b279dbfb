use Rattle.px_session.proofs.ExistingReplies.{transcripts_exist}
use Rattle.px_session.proofs.laws.transcripts_exist.Goals as goal

pub returns : goal.returns
returns c = transcripts_exist c.traces_exist.ensures c.duo_traces_exist.ensures c.duos_stay_ready.ensures
