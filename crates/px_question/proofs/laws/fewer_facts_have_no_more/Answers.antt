use Rattle.px_question.proofs.FewerFactsLaws.{fewer_facts-have_no_more as the_law}
use Rattle.px_question.proofs.laws.fewer_facts_have_no_more.Goals as goal

pub returns : goal.returns
returns c = the_law
