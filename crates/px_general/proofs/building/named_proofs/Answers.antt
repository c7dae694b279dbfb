use Rattle.std.proofs.Common.{length}
use Rattle.px_terms.specs.Language.{IsVariableBelow}
use Rattle.px_proof.specs.Derivation.{terms_of}
use Rattle.px_proof.specs.ProofTerm.{derivation_of}
use Rattle.px_general.proofs.BuildSteps.{part-within_map}
use Rattle.px_general.proofs.building.named_proofs.Goals as goal

pub substitute-requires : goal.substitute-requires
substitute-requires c =
    part-within_map derivation_of terms_of (IsVariableBelow (length c.args.names.now)) c.args.proofs.now c.loop-proof.proof-index
    c.proof-item.result c.loop-proof-test.true c.proof-item.is c.requires
