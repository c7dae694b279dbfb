use Rattle.std.proofs.Common.{List, subst, arith}
use Rattle.std.specs.Prelude.{◌↔◌, Contains}
use Rattle.std.proofs.lemmas.List.{take_all}
use Rattle.px_prover.specs.declared.pattern.GapPattern.{GapPattern}
use Rattle.px_terms.specs.Sorts.{ObjectsFit}
use Rattle.px_gaps.specs.Closings.{OneOf}
use Rattle.px_gaps.specs.Described.{IsChosenBy}
use Rattle.px_gaps.proofs.Describing.{chosen-by}
use Rattle.px_gaps.proofs.Grows.{grown, one_next}
use Rattle.px_gaps.proofs.SortedChoices.{fit-same, one-fits}
use Rattle.px_gaps.proofs.choices.choices_of.Goals as goal

pub loop-pattern-preserved : goal.loop-pattern-preserved
loop-pattern-preserved c = λ objects. grown (c.loop-pattern.invariant objects) (c.in_ok-push_choices.ensures objects)
    (one_next (λ (pattern : GapPattern). IsChosenBy c.args.limit c.args.provable.now.atoms pattern objects
    × ObjectsFit c.args.sorting.now.object_sorts.now c.args.sorting.now.wanted.now objects) c.args.patterns.now
    c.loop-pattern.pattern-index c.pattern-item.result c.loop-pattern-test.true c.pattern-item.is)

pub returns : goal.returns
returns c = λ objects.
    let Fits : Type 0 = ObjectsFit c.args.sorting.now.object_sorts.now c.args.sorting.now.wanted.now objects in
    let is = chosen-by c.args.limit c.args.patterns.now c.args.provable.now.atoms objects in
    let all =
    subst (λ (ps : List GapPattern). Contains c.loop-pattern.choices.items objects
    ↔ OneOf ps (λ (pattern : GapPattern). IsChosenBy c.args.limit c.args.provable.now.atoms pattern objects × Fits))
    (take_all c.loop-pattern.pattern-index c.args.patterns.now (omega (arith, c.loop-pattern-test.false)))
    (c.loop-pattern.invariant objects) in
    let one =
    one-fits {Fits = Fits} (λ (pattern : GapPattern). IsChosenBy c.args.limit c.args.provable.now.atoms pattern objects)
    c.args.patterns.now in
    (λ h. (fit-same is).0 (one.0 (all.0 h)), λ h. all.1 (one.1 ((fit-same is).1 h)))
