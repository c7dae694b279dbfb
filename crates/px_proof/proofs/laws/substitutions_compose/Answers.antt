use Rattle.px_proof.specs.SubstitutionLaws.{derivation_twice}
use Rattle.px_proof.proofs.laws.substitutions_compose.Goals as goal

pub returns : goal.returns
returns c = derivation_twice
