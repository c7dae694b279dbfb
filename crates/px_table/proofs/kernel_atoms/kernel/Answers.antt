use Rattle.std.proofs.Common.{◌≡◌, ◌<◌, length, get_or, cond, ◌&&◌, sym, ap, ◌∙◌}
use Rattle.std.specs.Prelude.{nat_le, nat_lt, List}
use Rattle.px_terms.specs.declared.atom.Atom.{Atom}
use Rattle.px_terms.specs.Order.{atom_eq}
use Rattle.px_table.specs.Once.{put_once}
use Rattle.px_table.proofs.KernelSteps.{kernel-more}
use Rattle.px_table.proofs.kernel_atoms.kernel.Goals as goal

pub loop-mark-preserved : goal.loop-mark-preserved
loop-mark-preserved c =
    let is : c.mark-item.result ≡ get_or c.args.table.now.marks c.loop-mark.mark-index c.mark-item.result =
    rw c.as_slice-mark-items.ensures at c.mark-item.is in
    let below : c.loop-mark.mark-index < length c.args.table.now.marks = rw c.as_slice-mark-items.ensures at c.loop-mark-test.true in
    c.in_ok-put_atom_of.ensures
    ∙ ap (λ (l : List Atom). cond (nat_le c.args.i c.mark-item.result.row && nat_lt c.mark-item.result.column c.args.i)
    (put_once atom_eq l c.mark-item.result.atom) l) c.loop-mark.invariant
    ∙ sym (kernel-more c.args.table.now.marks c.args.i c.loop-mark.mark-index c.mark-item.result is below)
