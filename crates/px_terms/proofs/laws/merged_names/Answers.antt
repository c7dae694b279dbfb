use Rattle.px_terms.specs.MergedNamesLaws.{merged_names}
use Rattle.px_terms.proofs.laws.merged_names.Goals as goal

pub returns : goal.returns
returns c = merged_names
