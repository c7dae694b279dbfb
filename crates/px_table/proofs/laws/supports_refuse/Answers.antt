use Rattle.px_table.specs.SupportClaimLaws.{supports_refuse}
use Rattle.px_table.proofs.laws.supports_refuse.Goals as goal

pub returns : goal.returns
returns c = supports_refuse
