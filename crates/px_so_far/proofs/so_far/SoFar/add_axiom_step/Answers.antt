use Rattle.px_so_far.proofs.Common.{ap, ◌∙◌, ◌∷◌, drop, map, take}
use Rattle.std.specs.Prelude.{reverse}
use Rattle.std.proofs.lemmas.Result.{on_ok_weaker}
use Rattle.px_proof.specs.ProofTerm.{derivation_of}
use Rattle.px_proof.specs.Derivation.{derivations, step}
use Rattle.px_so_far.proofs.ProofHeights.{step-pushed}
use Rattle.px_so_far.proofs.so_far.SoFar.add_axiom_step.Goals as goal

pub returns : goal.returns
returns c =
    let old = map derivation_of (reverse c.args.proofs.now.items) in
    on_ok_weaker c.push.result (λ last.
    step-pushed c.args.clause c.args.place c.args.count c.from_vec.result c.args.proofs.now.items c.take_last.new.proofs.items _
    c.from_vec-2.result (c.from_vec-2.ensures ∙ c.in_ok-subs.ensures.taken) c.in_ok-subs.ensures.rest last
    ∙ ap (λ theta. step c.args.clause theta c.args.place (derivations (take c.args.count old)) ∷ drop c.args.count old)
    (c.from_vec.ensures ∙ c.in_ok-theta.ensures)) c.push.ensures.ok
