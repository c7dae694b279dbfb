use Rattle.std.proofs.Common.{◌≡◌, take}
use Rattle.px_table.specs.Kernels.{kernel_of}
use Rattle.px_table.proofs.kernel_atoms.kernel.Given as goal

-- the kernel of the table that has only the marks up to here
abbrev pub invariant-loop-mark : goal.invariant-loop-mark
invariant-loop-mark l = l.atoms.items ≡ kernel_of (record l.table { marks = take l.mark-index l.table.marks }) l.i
