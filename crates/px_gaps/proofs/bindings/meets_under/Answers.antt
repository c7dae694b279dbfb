use Rattle.std.proofs.Common.{sym, subst}
use Rattle.std.specs.Prelude.{Contains}
use Rattle.px_terms.specs.Substitution.{substitute_atom}
use Rattle.px_terms.specs.declared.atom.Atom.{Atom}
use Rattle.px_base.proofs.Loops.{is_false, not_any, said_no, all_before_next}
use Rattle.px_gaps.proofs.bindings.meets_under.Goals as goal

pub loop-atom-preserved : goal.loop-atom-preserved
loop-atom-preserved c =
    all_before_next (λ (atom : Atom). ¬ Contains c.args.set.now.atoms (substitute_atom c.args.terms.now atom)) c.args.atoms.now
    c.loop-atom.atom-index c.atom-item.result c.loop-atom.invariant c.loop-atom-test.true c.atom-item.is
    (λ has. said_no c.holds.result c.holds.ensures c.if-holds.false (subst (Contains c.args.set.now.atoms) (sym c.apply-here.ensures) has))

pub returns : goal.returns
returns c =
    is_false (not_any (λ (atom : Atom). Contains c.args.set.now.atoms (substitute_atom c.args.terms.now atom)) c.args.atoms.now
    c.loop-atom.atom-index c.loop-atom.invariant c.loop-atom-test.false)
