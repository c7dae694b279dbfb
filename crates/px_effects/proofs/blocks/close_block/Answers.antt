use Rattle.px_effects.proofs.Common.{◌∙◌, sym, length, declared_of}
use Rattle.px_so_far.specs.SoFarViews.{table_view}
use Rattle.px_so_far.proofs.ProblemLemmas.{table-problem}
use Rattle.px_effects.proofs.TableLines.{kind-is}
use Rattle.px_effects.proofs.blocks.close_block.Goals as goal

pub close_table-requires-clause-problem : goal.close_table-requires-clause-problem
close_table-requires-clause-problem c =
    let h = table-problem (declared_of c.args.so_far.now) c.in-Table.table.has_goal (table_view c.in-Table.table)
    (kind-is (length c.args.so_far.now.schemas.items) c.args.so_far.now.block c.in-Some.block c.in-Table.table
    (sym c.take.ensures.value ∙ c.in-Some.is) c.in-Table.is) c.requires.range in
    record { valid = h.valid; building = h.building; short = h.short; objects = h.objects; few_sorts = h.few_sorts }
