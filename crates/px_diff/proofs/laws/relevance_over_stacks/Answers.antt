use Rattle.px_diff.proofs.StackLaws.{relevance-over_stacks}
use Rattle.px_diff.proofs.laws.relevance_over_stacks.Goals as goal

pub returns : goal.returns
returns c = relevance-over_stacks
