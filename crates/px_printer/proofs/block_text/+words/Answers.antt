use Rattle.std.proofs.Common.{◌∙◌, ap}
use Rattle.px_base.proofs.Loops.{on_ok}
use Rattle.px_proof.specs.LayerLaws.{derivation_of-step}
use Rattle.px_proof.specs.ProofTerm.{derivation_of}
use Rattle.px_printer.proofs.BlockLemmas.{step-written}
use Rattle.px_printer.proofs.block_text.+words.Goals as goal

pub push_proof-returns-in_ok-push_step-in-Step : goal.push_proof-returns-in_ok-push_step-in-Step
push_proof-returns-in_ok-push_step-in-Step t c =
    let is = ap derivation_of c.in-Step.is ∙ derivation_of-step c.in-Step.clause c.in-Step.theta c.in-Step.place c.in-Step.subs in
    on_ok c.push_proofs.result
    (step-written c.args.names.now c.args.spelling c.in-Step.clause c.in-Step.place c.in-Step.theta c.in-Step.subs c.as_slice.result.now
    c.as_slice-subs.result.now (derivation_of c.args.proof.now) _ _ _ c.as_slice.ensures c.as_slice-subs.ensures is
    c.in_ok-push_step-in-Step.ensures)
    c.push_proofs.ensures
