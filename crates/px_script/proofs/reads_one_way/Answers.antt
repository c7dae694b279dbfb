use Rattle.px_script.proofs.Law.{reads-one-way}
use Rattle.px_script.proofs.reads_one_way.Goals as goal

pub returns : goal.returns
returns c = reads-one-way
