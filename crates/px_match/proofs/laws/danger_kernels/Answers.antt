use Rattle.px_match.proofs.DangerLaws.{danger_kernels}
use Rattle.px_match.proofs.laws.danger_kernels.Goals as goal

pub returns : goal.returns
returns c = danger_kernels
