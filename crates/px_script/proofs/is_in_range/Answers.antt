use Rattle.px_script.proofs.Kept.{in-range, of-stage}
use Rattle.px_script.proofs.is_in_range.Goals as goal

pub returns : goal.returns
returns c = record { range = in-range; stage = of-stage }
