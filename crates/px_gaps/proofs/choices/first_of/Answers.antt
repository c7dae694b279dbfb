use Rattle.std.proofs.Common.{◌∙◌, get_or, sym}
use Rattle.px_terms.specs.declared.term.Term.TheVariants.{Obj}
use Rattle.px_gaps.specs.Choices.{IsClosed}
use Rattle.px_gaps.proofs.ChoiceLemmas.{not-variable, read-any, stands-open}
use Rattle.px_base.proofs.Loops.{all_before_next}
use Rattle.px_gaps.proofs.choices.first_of.Goals as goal

pub returns-in-Some-clause-some : goal.returns-in-Some-clause-some
returns-in-Some-clause-some c =
    let target = get_or c.args.targets.now c.loop-target.target-index (Obj 0) in
    stands-open c.requires.binding.0 c.args.terms.now c.requires.binding.1 target
    (c.requires.below c.loop-target.target-index (Obj 0) c.loop-target-test.true) c.in-Some.variable
    (sym c.apply_term.ensures ∙ c.in-Some.ensures.some)

pub loop-target-preserved : goal.loop-target-preserved
loop-target-preserved c =
    let target = get_or c.args.targets.now c.loop-target.target-index (Obj 0) in
    all_before_next (IsClosed c.args.terms.now) c.args.targets.now c.loop-target.target-index target c.loop-target.invariant
    c.loop-target-test.true (read-any c.args.targets.now c.loop-target.target-index (Obj 0) target c.loop-target-test.true)
    (not-variable c.args.terms.now target c.apply_term.result c.apply_term.ensures c.in-None.ensures.none)
