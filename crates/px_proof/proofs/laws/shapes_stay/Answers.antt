use Rattle.px_proof.specs.SubstitutionLaws.{skeleton-under}
use Rattle.px_proof.proofs.laws.shapes_stay.Goals as goal

pub returns : goal.returns
returns c = skeleton-under
