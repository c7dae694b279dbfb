use Rattle.px_causes.proofs.Common.{◌∙◌}
use Rattle.px_terms.specs.Limits.{most_formula_variables}
use Rattle.px_so_far.proofs.TableVariables.{place-numbered}
use Rattle.px_causes.proofs.naming.is_goal_variable.Goals as goal

pub returns : goal.returns
returns c = c.is_some.ensures ∙ place-numbered 103 most_formula_variables c.args.name.now c.goal_place.result c.goal_place.ensures.place
