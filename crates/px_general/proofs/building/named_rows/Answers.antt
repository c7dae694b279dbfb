use Rattle.std.proofs.Common.{List, length, map, sym, subst}
use Rattle.std.specs.Prelude.{All, flat_map}
use Rattle.px_terms.specs.Language.{IsVariableBelow}
use Rattle.px_proof.specs.declared.proof.Proof.{Proof}
use Rattle.px_proof.specs.Derivation.{terms_of}
use Rattle.px_proof.specs.ProofTerm.{derivation_of}
use Rattle.px_general.proofs.BuildSteps.{part-within_map}
use Rattle.px_general.proofs.building.named_rows.Goals as goal

pub named_proofs-requires : goal.named_proofs-requires
named_proofs-requires c =
    subst (λ (ps : List Proof). All (IsVariableBelow (length c.args.names.now)) (flat_map terms_of (map derivation_of ps)))
    (sym c.proofs.ensures)
    (part-within_map (map derivation_of) (flat_map terms_of)
    (IsVariableBelow (length c.args.names.now)) c.args.rows.now c.loop-row.row-index c.row-item.result c.loop-row-test.true
    c.row-item.is c.requires)
