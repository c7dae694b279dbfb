use Rattle.std.specs.Prelude.{List, length}
use Rattle.std.proofs.Common.{sym, subst, arith}
use Rattle.px_table.specs.declared.mark.Mark.{Mark}
use Rattle.px_match.specs.Keeping.{AreEmpty}
use Rattle.px_match.proofs.Proper.{proper_from_same}
use Rattle.px_match.proofs.Renewed.{kept_empty}
use Rattle.px_match.proofs.matcher.Matcher.reserve.Goals as goal

pub invariant_of-result : goal.invariant_of-result
invariant_of-result c = (
  c.requires.problem,
  c.requires.table,
  omega (arith, c.in_ok-work.ensures.len, c.in_ok-work.work.ok.0),
  omega (arith, c.in_ok-instance.ensures.len, c.in_ok-instance.instance.ok.0),
  kept_empty c.args.room c.args.table.now.marks c.in_ok-sensed.sensed c.in_ok-lists.lists.items c.in_ok-sensed.ensures.empty
      c.in_ok-sensed.ensures.room
      (subst (λ (marks : List Mark). AreEmpty c.args.room marks (length marks) c.in_ok-lists.lists.items) c.as_slice.ensures
      c.in_ok-lists.ensures),
  proper_from_same c.args.problem.now c.args.table.now c.in_ok-instance.instance.items c.deref.result.now
      c.goal_number-proper_from.result (sym c.deref.ensures.value) c.goal_number-proper_from.ensures.proper,
)
