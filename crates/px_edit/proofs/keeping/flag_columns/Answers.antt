use Rattle.std.proofs.Common.{◌≡◌, ◌+◌, ◌-◌, ◌<◌, length, refl, subst, arith}
use Rattle.px_base.specs.ListLaws.{All-at}
use Rattle.px_table.specs.declared.mark.Mark.{Mark}
use Rattle.px_edit.proofs.Flags.{AreFlaggedFrom, flagged-all, flagged-next, flagged-none}
use Rattle.px_edit.proofs.Lists.{there_at}
use Rattle.px_edit.proofs.keeping.flag_columns.Goals as goal

pub loop-at-init : goal.loop-at-init
loop-at-init c = flagged-none c.args.flags.now c.args.marks.now _ refl

pub flag_column-requires-clause-row : goal.flag_column-requires-clause-row
flag_column-requires-clause-row c =
    omega (
      arith,
      c.loop-at.invariant.long,
      All-at (λ (mark : Mark). mark.row < length c.args.flags.now) c.args.marks.now c.mark_at-mark.result c.requires.within
          (there_at c.args.marks.now (c.loop-at.at - 1) c.mark_at-mark.result c.mark_at-mark.ensures),
    )

pub flag_column-requires-clause-earlier : goal.flag_column-requires-clause-earlier
flag_column-requires-clause-earlier c =
    All-at (λ (mark : Mark). mark.column < mark.row) c.args.marks.now c.mark_at-mark.result c.requires.earlier
    (there_at c.args.marks.now (c.loop-at.at - 1) c.mark_at-mark.result c.mark_at-mark.ensures)

pub loop-at-preserved : goal.loop-at-preserved
loop-at-preserved c =
    let back : c.loop-at.at ≡ c.loop-at.at - 1 + 1 = omega (arith, c.loop-at-test.true) in
    flagged-next c.args.flags.now c.loop-at.flags c.flag_column.new.flags c.args.marks.now (length c.args.flags.now) (c.loop-at.at - 1)
    c.mark_at-mark.result c.requires c.mark_at-mark.ensures c.flag_column.ensures.long c.flag_column.ensures.exact
    (subst (AreFlaggedFrom c.args.flags.now c.loop-at.flags c.args.marks.now) back c.loop-at.invariant)

pub returns-clause-closed : goal.returns-clause-closed
returns-clause-closed c =
    flagged-all c.args.flags.now c.loop-at.flags c.args.marks.now c.loop-at.at (omega (arith, c.loop-at-test.false)) c.loop-at.invariant
