use Rattle.px_match.proofs.Sensing.{sensed_is_one}
use Rattle.px_match.proofs.laws.sensed_is_one.Goals as goal

pub returns : goal.returns
returns c = sensed_is_one
