use Rattle.std.proofs.Common.{◌∙◌}
use Rattle.px_table.proofs.KernelSteps.{insert_key-put_once}
use Rattle.px_table.proofs.kept.put_mark.Goals as goal

pub returns : goal.returns
returns c = c.in_ok-insert.ensures.keys ∙ insert_key-put_once c.args.marks.now.keys c.args.mark
