-- Proof of the goal that `trees_exist` of src/laws.rt leaves open.
use Rattle.px_totality.proofs.TreesExist.{trees_exist}
use Rattle.px_totality.proofs.laws.trees_exist.Goals as goal

pub returns : goal.returns
returns c = trees_exist
