use Rattle.px_rooms.proofs.Actions.{actions-follow}
use Rattle.px_rooms.proofs.laws.actions_are_results.Goals as goal

pub returns : goal.returns
returns c = actions-follow
