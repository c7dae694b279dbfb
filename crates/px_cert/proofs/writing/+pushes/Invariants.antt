use Rattle.std.proofs.Common.{◌≡◌, ◌++◌, map, drop}
use Rattle.std.specs.Prelude.{string_bytes}
use Rattle.px_proof.specs.Derivation.{derivations}
use Rattle.px_proof.specs.ProofTerm.{derivation_of}
use Rattle.px_cert.specs.Lines.{derivation_items}
use Rattle.px_cert.proofs.writing.+pushes.Given as goal

-- what is written, and the proofs that are still to come
abbrev pub invariant-push_proofs-loop-proof : goal.invariant-push_proofs-loop-proof
invariant-push_proofs-loop-proof l =
    string_bytes l.text ++ derivation_items (derivations (map derivation_of (drop l.proof-index l.proofs)))
    ≡ string_bytes l.initial.text ++ derivation_items (derivations (map derivation_of l.proofs))
