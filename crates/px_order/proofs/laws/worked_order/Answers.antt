use Rattle.px_order.proofs.Worked.{order_facts}
use Rattle.px_order.proofs.laws.worked_order.Goals as goal

pub returns : goal.returns
returns c = order_facts
