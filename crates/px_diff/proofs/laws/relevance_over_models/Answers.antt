use Rattle.px_diff.proofs.ModelLaws.{relevance-over_models}
use Rattle.px_diff.proofs.laws.relevance_over_models.Goals as goal

pub returns : goal.returns
returns c = relevance-over_models
