use Rattle.px_match.proofs.DangerSensing.{danger_sensed}
use Rattle.px_match.proofs.laws.danger_sensed.Goals as goal

pub returns : goal.returns
returns c = danger_sensed
