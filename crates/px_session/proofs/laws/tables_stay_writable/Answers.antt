use Rattle.px_session.proofs.Certifying.{tables_stay_writable}
use Rattle.px_session.proofs.laws.tables_stay_writable.Goals as goal

pub returns : goal.returns
returns c = tables_stay_writable
