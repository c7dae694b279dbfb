use Rattle.std.proofs.Common.{map}
use Rattle.px_prover.specs.Patterns.{object_under}
use Rattle.px_terms.specs.Language.{substitute, object_of}
use Rattle.px_gaps.proofs.ChoiceLemmas.{objects-under}
use Rattle.px_gaps.proofs.Choosing.{none-open, said, said_not}
use Rattle.px_gaps.proofs.Describing.{then-same}
use Rattle.px_gaps.proofs.SortedChoices.{fit-same, none-fits, open-is}
use Rattle.px_base.proofs.Loops.{on_ok}
use Rattle.px_gaps.proofs.choices.push_one.Goals as goal

pub returns-then-not-branch : goal.returns-then-not-branch
returns-then-not-branch c = λ objects.
    none-fits (none-open c.args.avoidance.now.limit c.args.terms.now c.args.avoidance.now.atoms.now c.args.avoidance.now.set.now.atoms
    (λ values. map (object_under values) c.args.targets.now) c.args.found.now.items
    (said_not _ c.in_ok-can_avoid.field-0 c.in_ok-can_avoid.ensures c.if-not-branch.true) objects)

pub returns : goal.returns
returns c =
    let here = map (λ t. object_of (substitute c.args.terms.now t)) c.args.targets.now in
    on_ok c.push_objects.result (λ put objects.
    then-same (put objects) (fit-same (open-is c.args.avoidance.now.limit c.args.terms.now c.args.avoidance.now.atoms.now
    c.args.avoidance.now.set.now.atoms (λ values. map (object_under values) c.args.targets.now) here
    (λ values extends. objects-under c.args.avoidance.now.limit c.args.terms.now c.requires.bound.binding values extends c.args.targets.now
    c.requires.below c.requires.closed)
    (said _ c.in_ok-can_avoid.field-0 c.in_ok-can_avoid.ensures c.if-not-branch.false) objects))) c.push_objects.ensures
