use Rattle.px_session.proofs.OneReply.{lawful_is_one}
use Rattle.px_session.proofs.laws.lawful_is_one.Goals as goal

pub returns : goal.returns
returns c = lawful_is_one
