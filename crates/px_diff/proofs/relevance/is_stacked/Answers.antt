use Rattle.std.proofs.lemmas.List.Elements.{Decides-contains, contains_decides}
use Rattle.px_table.specs.EntryLaws.{entry_eq-decides}
use Rattle.px_table.specs.EntryOrder.{entry_eq}
use Rattle.px_diff.proofs.relevance.is_stacked.Goals as goal

pub returns : goal.returns
returns c =
    Decides-contains c.args.stack.now c.args.entry.now c.contains.result
    (contains_decides entry_eq entry_eq-decides c.args.stack.now c.args.entry.now c.contains.result c.contains.ensures.cases)
