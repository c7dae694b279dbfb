use Rattle.px_saved.proofs.Law.{saved_is_read_back}
use Rattle.px_saved.proofs.saved_is_read_back.Goals as goal

pub returns : goal.returns
returns c = saved_is_read_back
