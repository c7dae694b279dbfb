use Rattle.std.proofs.Common.{◌∙◌, map}
use Rattle.px_proof.specs.ProofTerm.{derivation_of}
use Rattle.px_edit.specs.Editing.{wanted_fact}
use Rattle.px_edit.proofs.PartSteps.{fact-at, made-at, mapped_all}
use Rattle.px_edit.proofs.parts.goal_row.Goals as goal

pub loop-place-preserved : goal.loop-place-preserved
loop-place-preserved c = λ problem table is.
    made-at derivation_of (wanted_fact problem table c.args.kept.now) c.args.wanted.now c.loop-place.place (0, 0) c.loop-place.made.items _
    c.fact_at.result c.loop-place-test.true (c.loop-place.invariant problem table is) c.in_ok-push.ensures.items
    (c.fact_at.ensures
    ∙ fact-at problem table c.args.wanted.now c.args.kept.now c.args.goal.now c.loop-place.place c.loop-place-test.true is)

pub returns : goal.returns
returns c = λ problem table is.
    mapped_all (wanted_fact problem table c.args.kept.now) c.args.wanted.now c.loop-place.place (map derivation_of c.loop-place.made.items)
    c.loop-place-test.false (c.loop-place.invariant problem table is)
