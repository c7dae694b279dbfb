use Rattle.std.proofs.Common.{map, take, sym, ap, ◌∙◌, subst}
use Rattle.px_proof.specs.Derivation.{Derivation, leaves_of}
use Rattle.px_proof.specs.ProofTerm.{derivation_of}
use Rattle.px_table.specs.Marks.{mark_eq, mark_of}
use Rattle.px_table.specs.Once.{IsPrefix, put_each}
use Rattle.px_table.proofs.Prefixes.{walk-next, walk-fails}
use Rattle.px_proof.specs.LayerLaws.{derivation_of-step}
use Rattle.px_table.proofs.mark_list.+walks.Goals as goal

pub after_proof-returns-in-Step : goal.after_proof-returns-in-Step
after_proof-returns-in-Step t c =
    let is = ap derivation_of c.in-Step.is ∙ derivation_of-step c.in-Step.clause c.in-Step.theta c.in-Step.place c.in-Step.subs in
    subst (λ (d : Derivation). IsPrefix c.args.marks.now
    (put_each mark_eq (take c.args.count c.args.marks.now) (map (mark_of c.args.row) (leaves_of d))) c.after_proofs.result) (sym is)
    (rw c.as_slice.ensures at c.after_proofs.ensures)

pub after_proofs-returns-in-None : goal.after_proofs-returns-in-None
after_proofs-returns-in-None t c =
    walk-fails c.args.marks.now c.args.count c.args.row c.args.proofs.now c.loop-proof.proof-index c.proof-item.result c.proof-item.is
    c.loop-proof-test.true c.loop-proof.at c.loop-proof.invariant.prefix c.in-None.ensures

pub after_proofs-loop-proof-preserved : goal.after_proofs-loop-proof-preserved
after_proofs-loop-proof-preserved t c =
    let next =
    walk-next c.args.marks.now c.args.count c.args.row c.args.proofs.now c.loop-proof.proof-index c.proof-item.result c.proof-item.is
    c.loop-proof-test.true c.loop-proof.at c.loop-proof.invariant.prefix c.in-Some.next c.in-Some.ensures in
    record { within = next.0; prefix = next.1 }
