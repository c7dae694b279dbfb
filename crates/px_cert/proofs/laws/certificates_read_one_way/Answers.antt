use Rattle.px_cert.proofs.ClaimLaws.{reads_one_way as law}
use Rattle.px_cert.proofs.laws.certificates_read_one_way.Goals as goal

pub returns : goal.returns
returns c = law
