use Rattle.std.proofs.Common.{◌≡◌, ◌<◌, length, get_or}
use Rattle.px_table.specs.declared.mark.Mark.{Mark}
use Rattle.px_table.specs.Kernels.{mark_under, steps_under}
use Rattle.px_table.specs.Marks.{IsKept}
use Rattle.px_base.proofs.Loops.{not_all}
use Rattle.px_table.proofs.proper_instance.are_kept.Goals as goal

pub returns-then-not-is_kept : goal.returns-then-not-is_kept
returns-then-not-is_kept c =
    let is : c.mark-item.result ≡ get_or c.args.table.now.marks c.loop-mark.mark-index c.mark-item.result =
    rw c.as_slice-mark-items.ensures at c.mark-item.is in
    let below : c.loop-mark.mark-index < length c.args.table.now.marks = rw c.as_slice-mark-items.ensures at c.loop-mark-test.true in (
      λ yes. cc,
      λ proper.
          absurd (not_all (λ (m : Mark). IsKept c.args.problem.now (steps_under c.args.table.now c.args.sigma.now) c.args.first
          (mark_under c.args.sigma.now m)) c.args.table.now.marks c.loop-mark.mark-index c.mark-item.result below is
          (λ kept. let yes = c.is_kept.ensures.1 kept in let no_mark = c.if-not-is_kept.true in cc) proper),
    )
