use Rattle.std.proofs.Common.{[]}
use Rattle.px_terms.specs.declared.atom.Atom.{Atom}
use Rattle.px_gaps.proofs.AddableLaws.{addable-alike}
use Rattle.px_gaps.proofs.AtomBounds.{leaves-gap, leaves-plain}
use Rattle.px_base.proofs.Loops.{said_no}
use Rattle.px_gaps.proofs.bounds.bound_of_leaves.Goals as goal

abbrev of_predicate : Rattle.std.proofs.Common.ℕ → Atom
of_predicate pred = record { pred = pred; args = [] }

pub returns-then-is_added : goal.returns-then-is_added
returns-then-is_added c = leaves-gap c.args.problem.now c.args.pred

pub returns : goal.returns
returns c = leaves-plain c.args.problem.now c.args.pred
    (λ has. said_no c.is_added.result c.is_added.ensures c.if-is_added.false
    ((addable-alike c.args.problem.now [] (of_predicate c.args.pred)).1 has))
