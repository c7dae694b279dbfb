use Rattle.std.proofs.Common.{sym, subst}
use Rattle.std.specs.Prelude.{IfOk}
use Rattle.px_table.specs.declared.entry.Move.{Move}
use Rattle.px_support.specs.Asking.{IsTakeable, task_for}
use Rattle.px_support.specs.Going.{IsMoveTaken, node_in}
use Rattle.px_support.proofs.walk.take.Goals as goal

pub returns-in-Push : goal.returns-in-Push
returns-in-Push c =
    subst (λ (m : Move). IfOk c.push_entry.result (IsMoveTaken (task_for c.args.asked.now) m c.args.walk))
    (sym c.in-Push.is) c.push_entry.ensures

pub apply_top-requires-clause-takeable : goal.apply_top-requires-clause-takeable
apply_top-requires-clause-takeable c =
    subst (IsTakeable (task_for c.args.asked.now) (node_in c.args.walk)) c.in-Apply.is c.requires.takeable

pub returns-in-Apply : goal.returns-in-Apply
returns-in-Apply c =
    subst (λ (m : Move). IfOk c.apply_top.result (IsMoveTaken (task_for c.args.asked.now) m c.args.walk))
    (sym c.in-Apply.is) c.apply_top.ensures
