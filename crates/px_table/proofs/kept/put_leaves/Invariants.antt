use Rattle.std.proofs.Common.{◌≡◌, map, take}
use Rattle.px_table.specs.Marks.{mark_eq, mark_of}
use Rattle.px_table.specs.Once.{put_each}
use Rattle.px_table.proofs.kept.put_leaves.Given as goal

abbrev pub invariant-loop-leaf : goal.invariant-loop-leaf
invariant-loop-leaf l = l.marks.keys ≡ put_each mark_eq l.initial.marks.keys (map (mark_of l.row) (take l.leaf-index l.leaves))
