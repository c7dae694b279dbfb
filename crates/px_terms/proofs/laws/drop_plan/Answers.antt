use Rattle.px_terms.specs.DropPlanLaws.{drop_plan}
use Rattle.px_terms.proofs.laws.drop_plan.Goals as goal

pub returns : goal.returns
returns c = drop_plan
