use Rattle.px_proof.specs.ProofTerm.{derivation_of}
use Rattle.px_proof.specs.Substitution.{derivation_under, StaysProof, StaysTree, ProvesFromFacts}
use Rattle.px_proof.specs.SubstitutionLaws.{stays_proof, stays_tree, proves_from_facts}
use Rattle.px_proof.proofs.Made.{of_made}
use Rattle.px_proof.proofs.substitution.substitute.Goals as goal

pub returns-clause-proves : goal.returns-clause-proves
returns-clause-proves c =
    let old = derivation_of c.args.proof.now in
    of_made (StaysProof c.args.map.now old) (derivation_under c.args.map.now old) c.substitute_all.result
    (stays_proof c.args.map.now old) c.substitute_all.ensures

pub returns-clause-tree : goal.returns-clause-tree
returns-clause-tree c =
    let old = derivation_of c.args.proof.now in
    of_made (StaysTree c.args.map.now old) (derivation_under c.args.map.now old) c.substitute_all.result
    (stays_tree c.args.map.now old) c.substitute_all.ensures

pub returns-clause-proves_from_facts : goal.returns-clause-proves_from_facts
returns-clause-proves_from_facts c =
    let old = derivation_of c.args.proof.now in
    of_made (ProvesFromFacts c.args.map.now old) (derivation_under c.args.map.now old) c.substitute_all.result
    (proves_from_facts c.args.map.now old) c.substitute_all.ensures
