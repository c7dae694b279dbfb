use Rattle.px_causes.proofs.Common.{◌∙◌}
use Rattle.px_so_far.proofs.TableVariables.{place-numbered}
use Rattle.px_causes.proofs.naming.is_parameter.Goals as goal

pub returns : goal.returns
returns c = c.is_some.ensures ∙ place-numbered 112 c.args.parameters c.args.name.now c.parameter_place.result c.parameter_place.ensures
