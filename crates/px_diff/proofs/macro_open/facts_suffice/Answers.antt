use Rattle.std.proofs.Common.{sym, subst}
use Rattle.std.specs.Prelude.{All}
use Rattle.px_diff.specs.MacroOpen.{DeletesAddable}
use Rattle.px_base.proofs.Loops.{said_no}
use Rattle.px_diff.proofs.macro_open.facts_suffice.Goals as goal

pub returns : goal.returns
returns c = (
  λ is. record {
    apart = said_no c.axioms_mention_addable.result c.axioms_mention_addable.ensures c.if-axioms_mention_addable.false;
    deletes = subst (All (DeletesAddable c.args.problem.now)) c.as_slice.ensures (c.delete_addable.ensures.0 is);
  },
  λ told. c.delete_addable.ensures.1 (subst (All (DeletesAddable c.args.problem.now)) (sym c.as_slice.ensures) told.deletes),
)
