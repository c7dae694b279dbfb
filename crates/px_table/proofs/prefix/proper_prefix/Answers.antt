use Rattle.std.proofs.Common.{◌≡◌, ◌<◌, ◌≤◌, length, get_or}
use Rattle.px_table.specs.declared.mark.Mark.{Mark}
use Rattle.px_table.specs.Kernels.{mark_under, steps_under}
use Rattle.px_table.specs.Marks.{IsKept}
use Rattle.px_base.proofs.Loops.{not_all}
use Rattle.px_table.proofs.prefix.proper_prefix.Goals as goal

pub returns-then-not-is_kept_within : goal.returns-then-not-is_kept_within
returns-then-not-is_kept_within c =
    let is : c.mark-item.result ≡ get_or c.args.table.now.marks c.loop-mark.mark-index c.mark-item.result =
    rw c.as_slice-mark-items.ensures at c.mark-item.is in
    let below : c.loop-mark.mark-index < length c.args.table.now.marks = rw c.as_slice-mark-items.ensures at c.loop-mark-test.true in (
      λ yes. cc,
      λ proper.
          absurd (not_all (λ (m : Mark). m.row ≤ c.args.prefix
          → IsKept c.args.problem.now (steps_under c.args.table.now c.args.sigma.now) 1 (mark_under c.args.sigma.now m))
          c.args.table.now.marks c.loop-mark.mark-index c.mark-item.result below is
          (λ kept. let yes = c.is_kept_within.ensures.1 kept in let no_mark = c.if-not-is_kept_within.true in cc) proper),
    )
