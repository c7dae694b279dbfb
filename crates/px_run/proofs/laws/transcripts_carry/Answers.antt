use Rattle.px_run.proofs.Carried.{transcripts_carry}
use Rattle.px_run.proofs.laws.transcripts_carry.Goals as goal

pub returns : goal.returns
returns c = transcripts_carry
