use Rattle.px_ends.proofs.Exclusion.{ends_are_one}
use Rattle.px_ends.proofs.laws.ends_are_one.Goals as goal

pub returns : goal.returns
returns c = ends_are_one
