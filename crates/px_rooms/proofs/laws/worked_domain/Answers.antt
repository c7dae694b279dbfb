use Rattle.std.proofs.Common.{refl}
use Rattle.px_rooms.proofs.laws.worked_domain.Goals as goal

pub returns : goal.returns
returns c = record { predicates = refl; axioms = refl; operators = refl }
