use Rattle.px_terms.specs.Instances.{IsGround}
use Rattle.px_terms.specs.Substitution.{substitute_atom}
use Rattle.px_terms.specs.declared.atom.Atom.{Atom}
use Rattle.px_base.proofs.Loops.{all_before_next, all_whole}
use Rattle.px_gaps.proofs.bindings.first_open.Goals as goal

pub loop-place-preserved : goal.loop-place-preserved
loop-place-preserved c =
    all_before_next (λ (atom : Atom). IsGround (substitute_atom c.args.terms.now atom)) c.args.atoms.now c.loop-place.place
    c.index-atoms-place.result c.loop-place.invariant c.loop-place-test.true c.index-atoms-place.is c.in-None.ensures.none

pub returns-clause-none : goal.returns-clause-none
returns-clause-none c =
    all_whole (λ (atom : Atom). IsGround (substitute_atom c.args.terms.now atom)) c.args.atoms.now c.loop-place.place c.loop-place.invariant
    c.loop-place-test.false
