use Rattle.std.proofs.Common.{[], take}
use Rattle.std.specs.Prelude.{Contains}
use Rattle.px_terms.specs.declared.instance.OpInst.{OpInst}
use Rattle.px_terms.specs.Operators.{adds}
use Rattle.px_gaps.specs.Closings.{OneOf}
use Rattle.px_entries.specs.Instances.{Covers}
use Rattle.px_entries.proofs.matching.matches_of.Given as goal

abbrev pub invariant-loop-atom : goal.invariant-loop-atom
invariant-loop-atom l =
    Covers l.problem (λ (full : OpInst). OneOf (take l.atom-index l.wanted) (Contains (adds l.problem full))) [] l.found.items
