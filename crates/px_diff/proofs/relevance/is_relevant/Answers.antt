use Rattle.std.proofs.Common.{[]}
use Rattle.std.proofs.lemmas.List.Elements.{All-cons, All-nil}
use Rattle.px_terms.specs.Validity.{IsInstanceOf}
use Rattle.px_base.proofs.Loops.{is_false, said_no, said_yes}
use Rattle.px_diff.proofs.relevance.is_relevant.Goals as goal

pub add_wanted-requires-clause-steps : goal.add_wanted-requires-clause-steps
add_wanted-requires-clause-steps c =
    All-cons (IsInstanceOf c.args.request.now.problem.now) c.args.inst.now [] c.requires.inst
    (All-nil (IsInstanceOf c.args.request.now.problem.now))

pub returns-then-not-does_fit : goal.returns-then-not-does_fit
returns-then-not-does_fit c =
    is_false (λ relevant. said_no c.fits-does_fit.result c.fits-does_fit.ensures c.if-not-does_fit.true relevant.is_entry.fits)

pub returns-then-is_stacked : goal.returns-then-is_stacked
returns-then-is_stacked c = is_false (λ relevant. relevant.fresh (said_yes c.is_stacked.result c.is_stacked.ensures c.if-is_stacked.true))

pub returns : goal.returns
returns c = (
  λ yes'. let one = c.add_wanted.ensures.0 yes' in record {
    is_entry = record { of = c.requires.inst; fits = said_yes c.fits-does_fit.result c.fits-does_fit.ensures c.if-not-does_fit.false };
    fresh = said_no c.is_stacked.result c.is_stacked.ensures c.if-is_stacked.false;
    atom = one.0;
    is_wanted = one.1;
    added = one.2;
  },
  λ relevant. c.add_wanted.ensures.1 (relevant.atom, relevant.is_wanted, relevant.added),
)
