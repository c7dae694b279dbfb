use Rattle.std.proofs.Common.{sym, subst}
use Rattle.std.specs.Prelude.{All}
use Rattle.px_terms.specs.Validity.{IsAtomOf}
use Rattle.px_entries.proofs.RestLaws.{rest-all}
use Rattle.px_diff.proofs.Reordering.{reordered-all}
use Rattle.px_diff.proofs.rest.rest_answer.Goals as goal

pub ask_gaps-requires-clause-formula : goal.ask_gaps-requires-clause-formula
ask_gaps-requires-clause-formula c =
    let problem = c.args.request.now.problem.now in
    let belongs = IsAtomOf problem c.args.variable_count in
    subst (All belongs) (sym c.deref-2.ensures.value)
    (reordered-all belongs c.deref.result.now c.in_ok-ordered.ordered.items c.in_ok-ordered.ensures
    (subst (All belongs) (sym c.deref.ensures.value)
    (rest-all belongs problem c.args.formula.now c.in_ok-rest.rest.items c.in_ok-rest.ensures c.requires.formula)))
