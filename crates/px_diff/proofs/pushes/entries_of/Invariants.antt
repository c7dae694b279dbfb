use Rattle.std.proofs.Common.{◌≡◌, map, take}
use Rattle.px_table.specs.declared.entry.Entry.TheVariants.{Op}
use Rattle.px_diff.proofs.pushes.entries_of.Given as goal

abbrev pub invariant-loop-inst : goal.invariant-loop-inst
invariant-loop-inst l = l.entries.items ≡ map Op (take l.inst-index l.insts)
