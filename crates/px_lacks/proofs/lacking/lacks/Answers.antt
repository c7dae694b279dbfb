use Rattle.std.proofs.Common.{subst}
use Rattle.px_entries.specs.Entries.{IsEntry}
use Rattle.px_lacks.proofs.lacking.lacks.Goals as goal

pub precondition_of-requires-clause-op : goal.precondition_of-requires-clause-op
precondition_of-requires-clause-op c = (subst (IsEntry c.args.problem.now c.args.tables.now) c.in-Op.is c.requires.entry).of.op

pub precondition_of-requires-clause-count : goal.precondition_of-requires-clause-count
precondition_of-requires-clause-count c = (subst (IsEntry c.args.problem.now c.args.tables.now) c.in-Op.is c.requires.entry).of.count
