use Rattle.std.proofs.Common.{ap, ◌∙◌}
use Rattle.px_table.specs.declared.entry.Entry.{Entry}
use Rattle.px_table.specs.EntryLaws.{entry_cmp-is}
use Rattle.px_table.specs.EntryOrder.{order_of_entries}
use Rattle.px_search.proofs.merging.compared.Goals as goal

pub returns : goal.returns
returns c = λ first second is is'.
    c.cmp.ensures ∙ entry_cmp-is c.entry_of.result.now c.entry_of-2.result.now
    ∙ ap (λ (e : Entry). order_of_entries e c.entry_of-2.result.now) (c.entry_of.ensures first is)
    ∙ ap (λ (e : Entry). order_of_entries first e) (c.entry_of-2.ensures second is')
