use Rattle.px_edit.proofs.WorkedEditLaws.{worked_edits as law}
use Rattle.px_edit.proofs.laws.worked_edits.Goals as goal

pub returns : goal.returns
returns c = law
