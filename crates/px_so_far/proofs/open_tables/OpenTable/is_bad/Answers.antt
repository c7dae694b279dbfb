use Rattle.px_so_far.proofs.TableEnds.{too-wide}
use Rattle.px_so_far.proofs.open_tables.OpenTable.is_bad.Goals as goal

pub returns-in_default : goal.returns-in_default
returns-in_default c = too-wide c.args.problem.now c.requires.valid c.args.self.now c.if-not-self.false
    (rw (c.in_default.is, c.deref.ensures.value) at c.in_ok-steps.ensures)
