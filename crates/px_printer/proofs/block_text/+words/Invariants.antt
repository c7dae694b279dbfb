use Rattle.std.proofs.Common.{◌≡◌, ◌++◌, map, drop}
use Rattle.std.specs.Prelude.{string_bytes}
use Rattle.px_proof.specs.Derivation.{derivations}
use Rattle.px_proof.specs.ProofTerm.{derivation_of}
use Rattle.px_printer.specs.Blocks.{AreNamedProofs, all_proof_words}
use Rattle.px_printer.specs.Texts.{after_spaces}
use Rattle.px_printer.proofs.block_text.+words.Given as goal

-- what is written, and the words of the proofs that are still to come, which have their names
abbrev pub invariant-push_proofs-loop-proof : goal.invariant-push_proofs-loop-proof
invariant-push_proofs-loop-proof l =
    (string_bytes l.text
    ++ after_spaces (all_proof_words l.names l.spelling (derivations (map derivation_of (drop l.proof-index l.proofs))))
    ≡ string_bytes l.initial.text ++ after_spaces (all_proof_words l.names l.spelling (derivations (map derivation_of l.proofs))))
    × AreNamedProofs l.names (derivations (map derivation_of (drop l.proof-index l.proofs)))
