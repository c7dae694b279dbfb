use Rattle.px_session.proofs.ExistingReplies.{replies_exist}
use Rattle.px_session.proofs.laws.replies_exist.Goals as goal

pub returns : goal.returns
returns c = replies_exist c.traces_exist.ensures c.duo_traces_exist.ensures c.duos_stay_ready.ensures
