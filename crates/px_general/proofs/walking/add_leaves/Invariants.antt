use Rattle.std.proofs.Common.{◌≡◌, ◌++◌, take}
use Rattle.std.specs.Prelude.{flat_map}
use Rattle.px_general.proofs.WalkSteps.{row_leaf_terms_of}
use Rattle.px_general.proofs.walking.add_leaves.Given as goal

abbrev pub invariant-loop-row : goal.invariant-loop-row
invariant-loop-row l = l.walked.items ≡ l.initial.walked.items ++ flat_map row_leaf_terms_of (take l.row-index l.rows)
