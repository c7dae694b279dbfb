use Rattle.px_session.proofs.Certifying.{certificates_are_accepted}
use Rattle.px_session.proofs.laws.certificates_are_accepted.Goals as goal

pub returns : goal.returns
returns c = certificates_are_accepted
