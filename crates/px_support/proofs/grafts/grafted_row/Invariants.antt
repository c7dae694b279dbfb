use Rattle.std.specs.List.{AllZip}
use Rattle.std.specs.Prelude.{map, take}
use Rattle.px_proof.specs.ProofTerm.{derivation_of}
use Rattle.px_proof.specs.Substitution.{derivation_under}
use Rattle.px_support.specs.Grafted.{IsGraftBy}
use Rattle.px_support.proofs.grafts.grafted_row.Given as goal

abbrev pub invariant-loop-proof : goal.invariant-loop-proof
invariant-loop-proof l =
    AllZip (IsGraftBy l.graft (map derivation_of l.firsts))
    (map (derivation_under l.graft.terms.now) (map derivation_of (take l.proof-index l.proofs))) (map derivation_of l.made.items)
