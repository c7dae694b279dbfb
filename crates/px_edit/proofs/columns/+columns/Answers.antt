use Rattle.std.proofs.Common.{◌≡◌, length, map, take, ap, ◌∙◌, arith}
use Rattle.std.proofs.Math.Seq.{take-length}
use Rattle.px_proof.specs.Derivation.{derivations}
use Rattle.px_proof.specs.ProofTerm.{derivation_of}
use Rattle.px_edit.specs.Editing.{in_columns, new_number}
use Rattle.px_edit.proofs.PartSteps.{in_columns-each}
use Rattle.px_edit.proofs.columns.+columns.Goals as goal

pub each_in_new_columns-returns : goal.each_in_new_columns-returns
each_in_new_columns-returns t c =
    let at_end : c.loop-proof.proof-index ≡ length c.args.proofs.now =
    omega (arith, c.loop-proof-test.false, c.loop-proof.auto.proof-index-end) in
    let whole : take c.loop-proof.proof-index c.args.proofs.now ≡ c.args.proofs.now =
    ap (λ n. take n c.args.proofs.now) at_end ∙ take-length c.args.proofs.now in
    ap derivations (c.loop-proof.invariant ∙ ap (λ xs. map (in_columns (new_number c.args.kept.now)) (map derivation_of xs)) whole)
    ∙ in_columns-each (new_number c.args.kept.now) (map derivation_of c.args.proofs.now)
