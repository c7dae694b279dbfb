use Rattle.std.proofs.Common.{◌≡◌, false, take, sym, ◌∙◌}
use Rattle.std.specs.List.{list_any}
use Rattle.px_table.specs.Marks.{mark_eq, mark_of}
use Rattle.px_table.proofs.Prefixes.{prefix-more, prefix-other, prefix-end}
use Rattle.px_table.proofs.mark_list.after_leaf.Goals as goal
use Rattle.px_table.proofs.mark_list.after_leaf.Goals.{else-count-marks-via-then-count-marks+else-eq, else-count-marks-via-else-count-marks}

pub returns-then-eq : goal.returns-then-eq
returns-then-eq c =
    let mark = mark_of c.args.row c.args.leaf.now in
    let new : list_any (λ other. mark_eq other mark) (take c.args.count c.args.marks.now) ≡ false =
    rw c.leaf_mark-mark.ensures at (sym c.has_mark.ensures ∙ c.if-has_mark.false) in
    prefix-more c.args.marks.now c.args.count mark c.requires c.index-marks-count.result new c.if-count-marks.true c.index-marks-count.is
    (rw c.leaf_mark-mark.ensures at (sym c.eq.ensures ∙ c.if-eq.true))

pub returns : goal.returns
returns c =
    let mark = mark_of c.args.row c.args.leaf.now in
    let new : list_any (λ other. mark_eq other mark) (take c.args.count c.args.marks.now) ≡ false =
    rw c.leaf_mark-mark.ensures at (sym c.has_mark.ensures ∙ c.if-has_mark.false) in
    elim c.else-count-marks.branch [
      | else-count-marks-via-then-count-marks+else-eq w ↦
          prefix-other c.args.marks.now c.args.count mark c.requires w.index-marks-count.result new w.index-marks-count.is
          (rw c.leaf_mark-mark.ensures at (sym w.eq.ensures ∙ w.if-eq.false))
      | else-count-marks-via-else-count-marks w ↦ prefix-end c.args.marks.now c.args.count mark c.requires new w.if-count-marks.false
    ]
