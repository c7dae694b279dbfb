use Rattle.px_entries.proofs.RowSteps.{step-at}
use Rattle.px_entries.proofs.entry_rows.step_under.Goals as goal

pub returns : goal.returns
returns c =
    step-at c.args.table.now c.args.sigma.now c.args.place c.index-as_slice-place.result c.instance_with.result c.requires.place
    (rw c.as_slice.ensures at c.index-as_slice-place.is) c.instance_with.ensures
