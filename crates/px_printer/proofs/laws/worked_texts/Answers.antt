use Rattle.px_printer.proofs.WorkedOut.{worked_texts}
use Rattle.px_printer.proofs.laws.worked_texts.Goals as goal

pub returns : goal.returns
returns c = worked_texts
