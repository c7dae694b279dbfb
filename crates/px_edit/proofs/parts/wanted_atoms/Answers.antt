use Rattle.px_edit.specs.Editing.{wanted_atom}
use Rattle.px_edit.proofs.PartSteps.{mapped-at, mapped_all}
use Rattle.px_edit.proofs.parts.wanted_atoms.Goals as goal

pub loop-place-preserved : goal.loop-place-preserved
loop-place-preserved c =
    mapped-at (wanted_atom c.args.problem.now c.args.table.now) c.args.wanted.now c.loop-place.place (0, 0) c.loop-place.made.items _
    c.wanted_at.result c.loop-place-test.true c.loop-place.invariant c.in_ok-push.ensures.items c.wanted_at.ensures

pub returns : goal.returns
returns c =
    mapped_all (wanted_atom c.args.problem.now c.args.table.now) c.args.wanted.now c.loop-place.place c.loop-place.made.items
    c.loop-place-test.false c.loop-place.invariant
