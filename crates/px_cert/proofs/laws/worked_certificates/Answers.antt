use Rattle.px_cert.proofs.WorkedLaws.{worked_certificates as law}
use Rattle.px_cert.proofs.laws.worked_certificates.Goals as goal

pub returns : goal.returns
returns c = law
