use Rattle.px_cert.proofs.ClaimLaws.{claims_are_texts as law}
use Rattle.px_cert.proofs.laws.claims_are_texts.Goals as goal

pub returns : goal.returns
returns c = law
