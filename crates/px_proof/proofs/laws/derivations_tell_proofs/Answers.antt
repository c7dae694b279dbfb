use Rattle.px_proof.specs.LayerLaws.{derivations_tell_proofs}
use Rattle.px_proof.proofs.laws.derivations_tell_proofs.Goals as goal

pub returns : goal.returns
returns c = derivations_tell_proofs
