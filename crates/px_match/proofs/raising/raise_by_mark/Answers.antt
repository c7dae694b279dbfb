use Rattle.std.proofs.Common.{List, subst}
use Rattle.std.specs.Prelude.{All, length}
use Rattle.px_terms.specs.declared.term.Term.{Term}
use Rattle.px_match.specs.Reasons.{IsSameBefore}
use Rattle.px_match.proofs.Passed.{blamed_same}
use Rattle.px_match.proofs.raising.raise_by_mark.Goals as goal

pub returns-clause-raised : goal.returns-clause-raised
returns-clause-raised c = record {
  at_least = c.least_of-raised.ensures.at_least;
  at_most = λ objects fits agree from.
      let same =
      blamed_same c.blame.new.cells (length c.args.work.now) c.args.work.now c.args.place objects c.args-2.result.now agree
      c.blame.ensures.blamed in
      c.least_of-raised.ensures.at_most objects fits
      (subst (λ (terms : List Term). All (IsSameBefore c.args.work.now c.args.place objects) terms) c.args-2.ensures.value same) from;
}
