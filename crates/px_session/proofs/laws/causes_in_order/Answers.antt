use Rattle.px_session.proofs.InOrder.{causes_in_order}
use Rattle.px_session.proofs.laws.causes_in_order.Goals as goal

pub returns : goal.returns
returns c = causes_in_order
