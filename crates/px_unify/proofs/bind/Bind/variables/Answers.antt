use Rattle.px_unify.proofs.Solutions.{has-solutions}
use Rattle.px_unify.proofs.bind.Bind.variables.Goals as goal

pub returns-clause-solvable : goal.returns-clause-solvable
returns-clause-solvable c = rw (← c.self.view_is) (has-solutions c.self.inside.changes.items c.self.invariant.bound)
