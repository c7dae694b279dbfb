use Rattle.std.proofs.Common.{List, sym, subst}
use Rattle.px_terms.specs.declared.term.Term.{Term}
use Rattle.px_gaps.specs.Bindings.{ExtendsTerms}
use Rattle.px_entries.specs.Parameters.{FitsTerms}
use Rattle.px_diff.proofs.FittingLemmas.{fits_found}
use Rattle.px_base.proofs.Loops.{on_ok}
use Rattle.px_entries.proofs.ParameterLemmas.{extends-fits}
use Rattle.px_diff.proofs.row_questions.push_offer.Goals as goal

pub returns-in-Some-clause-covers : goal.returns-in-Some-clause-covers
returns-in-Some-clause-covers c =
    on_ok c.push_choice.result (λ covers sigma extends fits.
    let both =
    fits_found (λ next. ExtendsTerms c.args.limit next.items sigma) c.in_ok-found.found c.in-Some.both c.in-Some.is
    (c.in_ok-found.ensures.fits sigma extends fits) in
    covers sigma (subst (λ (l : List Term). FitsTerms l sigma) (sym c.deref.ensures.value)
    (extends-fits c.args.limit c.in-Some.both.items sigma both))) c.push_choice.ensures.covers
