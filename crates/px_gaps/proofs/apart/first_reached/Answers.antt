use Rattle.std.proofs.Common.{◌≡◌, ◌∙◌, List, ap, map, subst, sym}
use Rattle.std.specs.Prelude.{Any, Contains}
use Rattle.px_terms.specs.Language.{substitute}
use Rattle.px_terms.specs.declared.atom.Atom.{Atom}
use Rattle.px_terms.specs.declared.term.Term.{Term}
use Rattle.px_terms.specs.declared.term.Term.TheVariants.{Var}
use Rattle.px_gaps.specs.Apart.{StandsIn}
use Rattle.px_base.proofs.Loops.{all_before_next, all_whole, said_no}
use Rattle.px_gaps.proofs.apart.first_reached.Goals as goal

pub loop-place-preserved : goal.loop-place-preserved
loop-place-preserved c =
    let terms = c.args.terms.now in
    let same : c.args-in-loop-place.result.now ≡ map (substitute terms) c.index-atoms-place.result.args =
    c.args-in-loop-place.ensures.value ∙ ap (λ (a : Atom). a.args) c.apply-here.ensures in
    all_before_next (λ (atom : Atom). ¬ Any (λ v. StandsIn terms v atom) c.args.reached.now) c.args.atoms.now c.loop-place.place
    c.index-atoms-place.result c.loop-place.invariant c.loop-place-test.true c.index-atoms-place.is
    (λ any. said_no c.is_reached.result c.is_reached.ensures c.if-is_reached.false
    (subst (λ (ts : List Term). Any (λ v. Contains ts (Var v)) c.args.reached.now) (sym same) any))

pub returns-clause-none : goal.returns-clause-none
returns-clause-none c =
    all_whole (λ (atom : Atom). ¬ Any (λ v. StandsIn c.args.terms.now v atom) c.args.reached.now) c.args.atoms.now c.loop-place.place
    c.loop-place.invariant c.loop-place-test.false
