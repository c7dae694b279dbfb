use Rattle.std.proofs.Common.{sym, subst}
use Rattle.px_diff.specs.MacroOpen.{IsSettledMark}
use Rattle.px_entries.specs.Plain.{IsSettled}
use Rattle.px_base.proofs.Loops.{said_yes}
use Rattle.px_diff.proofs.MacroOpen.{told-as}
use Rattle.px_diff.proofs.macro_open.is_settled_mark.Goals as goal

pub is_settled-requires-clause-problem : goal.is_settled-requires-clause-problem
is_settled-requires-clause-problem c = c.requires.prefix.problem

pub returns : goal.returns
returns c =
    let Settled = IsSettled c.args.prefix.now.request.problem.now c.args.prefix.now.request.model.now.atoms in
    told-as {P = Settled c.atom_with-atom.result} {Q = IsSettledMark c.args.prefix.now.request.problem.now
    c.args.prefix.now.request.model.now.atoms c.args.prefix.now.count c.args.sigma.now c.args.mark.now} c.is_settled.result (
      λ settled wanted. subst Settled c.atom_with-atom.ensures settled,
      λ settled. subst Settled (sym c.atom_with-atom.ensures)
          (settled (said_yes c.is_needed.result c.is_needed.ensures c.if-not-is_needed.false)),
    ) c.is_settled.ensures
