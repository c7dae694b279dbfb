use Rattle.std.proofs.Common.{◌≡◌, ◌++◌, take}
use Rattle.px_general.specs.Naming.{args_of_leaves}
use Rattle.px_general.proofs.walking.add_args.Given as goal

abbrev pub invariant-loop-leaf : goal.invariant-loop-leaf
invariant-loop-leaf l = l.walked.items ≡ l.initial.walked.items ++ args_of_leaves (take l.leaf-index l.leaves)
