use Rattle.px_session.proofs.InOrder.{refused_replies}
use Rattle.px_session.proofs.laws.refused_replies.Goals as goal

pub returns : goal.returns
returns c = refused_replies
