use Rattle.px_table.specs.SupportClaimLaws.{supports_carry}
use Rattle.px_table.proofs.laws.supports_carry.Goals as goal

pub returns : goal.returns
returns c = supports_carry
