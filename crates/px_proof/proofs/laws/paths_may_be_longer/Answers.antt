use Rattle.px_proof.specs.ProvesLaws.{stays_under_longer_paths}
use Rattle.px_proof.proofs.laws.paths_may_be_longer.Goals as goal

pub returns : goal.returns
returns c = stays_under_longer_paths
