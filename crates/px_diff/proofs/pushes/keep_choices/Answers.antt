use Rattle.std.proofs.Common.{◌≡◌, ◌⊎◌, ℕ, List, sym, subst, arith}
use Rattle.std.specs.Prelude.{◌↔◌, Contains}
use Rattle.std.proofs.lemmas.List.{take_all}
use Rattle.px_base.specs.ListLaws.{All-at}
use Rattle.px_gaps.specs.Closings.{OneOf}
use Rattle.px_diff.specs.Gathering.{AreObjectsFor, instance_by}
use Rattle.px_diff.specs.Requests.{IsRelevantFor}
use Rattle.px_gaps.proofs.Grows.{grouped, grown, one_next}
use Rattle.px_base.proofs.Loops.{contains_here}
use Rattle.px_diff.proofs.pushes.keep_choices.Goals as goal

pub keep_relevant-requires-clause-objects : goal.keep_relevant-requires-clause-objects
keep_relevant-requires-clause-objects c =
    subst (AreObjectsFor c.args.request.now.problem.now c.args.partial.now) (sym c.as_slice.ensures)
    (All-at (AreObjectsFor c.args.request.now.problem.now c.args.partial.now) c.args.choices.now c.objects-item.result c.requires.choices
    (contains_here c.args.choices.now c.loop-objects.objects-index c.objects-item.result c.loop-objects-test.true c.objects-item.is))

pub loop-objects-preserved : goal.loop-objects-preserved
loop-objects-preserved c = λ inst.
    grown (c.loop-objects.invariant inst)
    (subst (λ (l : List ℕ). Contains c.keep_relevant.new.found.items inst
    ↔ (Contains c.loop-objects.found.items inst ⊎ ((instance_by c.args.partial.now l ≡ inst) × IsRelevantFor c.args.request.now inst)))
    c.as_slice.ensures (c.in_ok-keep_relevant.ensures inst))
    (grouped (one_next (λ (objects : List ℕ). (instance_by c.args.partial.now objects ≡ inst) × IsRelevantFor c.args.request.now inst)
    c.args.choices.now c.loop-objects.objects-index c.objects-item.result c.loop-objects-test.true c.objects-item.is))

pub returns : goal.returns
returns c = λ inst.
    subst (λ (l : List (List ℕ)). Contains c.loop-objects.found.items inst
    ↔ (Contains c.args.found.now.items inst
    ⊎ OneOf l (λ (objects : List ℕ). (instance_by c.args.partial.now objects ≡ inst) × IsRelevantFor c.args.request.now inst)))
    (take_all c.loop-objects.objects-index c.args.choices.now (omega (arith, c.loop-objects-test.false)))
    (c.loop-objects.invariant inst)
