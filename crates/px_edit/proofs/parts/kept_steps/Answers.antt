use Rattle.std.proofs.Common.{◌-◌, take, refl}
use Rattle.std.specs.Prelude.{slice_index_or}
use Rattle.px_edit.specs.Editing.{no_step}
use Rattle.px_edit.proofs.PartSteps.{mapped-at, mapped_all}
use Rattle.px_edit.proofs.parts.kept_steps.Goals as goal

pub loop-place-preserved : goal.loop-place-preserved
loop-place-preserved c =
    mapped-at (λ k. slice_index_or c.args.table.now.steps (k - 1) no_step) c.args.kept.now c.loop-place.place 0 c.loop-place.made.items _
    c.kept_step.result c.loop-place-test.true c.loop-place.invariant c.in_ok-push.ensures.items c.kept_step.ensures

pub returns : goal.returns
returns c =
    mapped_all (λ k. slice_index_or c.args.table.now.steps (k - 1) no_step) c.args.kept.now c.loop-place.place c.loop-place.made.items
    c.loop-place-test.false c.loop-place.invariant
