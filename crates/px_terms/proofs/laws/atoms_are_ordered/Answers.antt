use Rattle.px_terms.proofs.BeforeLaws.{atoms_are_ordered}
use Rattle.px_terms.proofs.laws.atoms_are_ordered.Goals as goal

pub returns : goal.returns
returns c = atoms_are_ordered
