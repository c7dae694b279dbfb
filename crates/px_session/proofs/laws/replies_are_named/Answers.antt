use Rattle.px_session.proofs.NamedReplies.{replies_are_named}
use Rattle.px_session.proofs.laws.replies_are_named.Goals as goal

pub returns : goal.returns
returns c = replies_are_named
