use Rattle.px_cert.proofs.ClaimLaws.{tables_are_certified as law}
use Rattle.px_cert.proofs.laws.tables_are_certified.Goals as goal

pub returns : goal.returns
returns c = law
