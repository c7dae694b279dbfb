use Rattle.px_terms.proofs.SortedLaws.{sorted_instances}
use Rattle.px_terms.proofs.laws.sorted_instances.Goals as goal

pub returns : goal.returns
returns c = sorted_instances
