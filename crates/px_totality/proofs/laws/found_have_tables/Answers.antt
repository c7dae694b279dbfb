use Rattle.px_totality.proofs.MadeTables.{found_have_tables}
use Rattle.px_totality.proofs.laws.found_have_tables.Goals as goal

pub returns : goal.returns
returns c = found_have_tables
