use Rattle.std.proofs.Common.{◌+◌, sym, subst}
use Rattle.px_match.specs.Keeping.{AreEmpty}
use Rattle.px_match.proofs.Renewed.{one_more_empty}
use Rattle.px_match.proofs.matcher.lists_of.Goals as goal

pub loop-mark-preserved : goal.loop-mark-preserved
loop-mark-preserved c =
    subst (AreEmpty c.args.room c.args.marks.now (c.loop-mark.mark-index + 1)) (sym c.in_ok-push.ensures.items)
    (one_more_empty c.args.room c.args.marks.now c.loop-mark.mark-index c.loop-mark.lists.items c.mark-item.result
    c.in_ok-list_of.field-0 c.loop-mark-test.true c.mark-item.is c.loop-mark.invariant c.in_ok-list_of.ensures.empty
    c.in_ok-list_of.ensures.places)
