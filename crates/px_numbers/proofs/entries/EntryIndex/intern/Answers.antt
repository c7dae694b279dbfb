use Rattle.std.proofs.Common.{subst}
use Rattle.std.specs.Prelude.{IfOk}
use Rattle.px_table.specs.EntryOrder.{entry_eq}
use Rattle.px_table.specs.EntryLaws.{entry_eq-decides}
use Rattle.px_ops.specs.Keeping.{Keeps}
use Rattle.px_ops.specs.KeepLaws.{keeps}
use Rattle.px_numbers.proofs.entries.EntryIndex.intern.Goals as goal

pub returns-clause-kept : goal.returns-clause-kept
returns-clause-kept c =
    subst (λ old. IfOk c.keep.result (Keeps old c.keep.new.set.keys c.args.entry)) c.self.view_is
    (keeps entry_eq entry_eq-decides c.self.inside.entries.keys c.keep.new.set.keys c.args.entry c.keep.result c.keep.ensures.keys
    c.keep.ensures.stored)
