use Rattle.std.specs.Prelude.{◌≡◌, ◌↔◌, ◌⊎◌, ℕ, List, take, Contains}
use Rattle.px_terms.specs.declared.instance.OpInst.{OpInst}
use Rattle.px_gaps.specs.Closings.{OneOf}
use Rattle.px_diff.specs.Gathering.{instance_by}
use Rattle.px_diff.specs.Requests.{IsRelevantFor}
use Rattle.px_diff.proofs.pushes.keep_choices.Given as goal

abbrev pub invariant-loop-objects : goal.invariant-loop-objects
invariant-loop-objects l =
    (inst : OpInst) → Contains l.found.items inst
    ↔ (Contains l.initial.found.items inst
    ⊎ OneOf (take l.objects-index l.choices) (λ (objects : List ℕ). (instance_by l.partial objects ≡ inst)
    × IsRelevantFor l.request inst))
