use Rattle.px_rooms.proofs.Instances.{instances-are-actions}
use Rattle.px_rooms.proofs.laws.instances_are_actions.Goals as goal

pub returns : goal.returns
returns c = instances-are-actions
