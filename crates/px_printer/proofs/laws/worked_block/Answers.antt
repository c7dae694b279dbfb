use Rattle.px_printer.proofs.WorkedOut.{worked_block}
use Rattle.px_printer.proofs.laws.worked_block.Goals as goal

pub returns : goal.returns
returns c = worked_block
