use Rattle.std.proofs.Common.{◌≡◌, List, length, ap, subst, sym}
use Rattle.std.specs.Prelude.{All, Contains}
use Rattle.std.proofs.lemmas.List.Elements.{All-drop}
use Rattle.px_terms.specs.declared.term.Term.{Term}
use Rattle.px_entries.specs.Parameters.{FitsTerms}
use Rattle.px_base.proofs.Loops.{on_ok}
use Rattle.px_entries.proofs.ParameterLemmas.{among-dropped, pushed-all, pushed-kept, pushed-last}
use Rattle.px_entries.proofs.Slices.{rest_of}
use Rattle.px_diff.proofs.row_questions.push_choice.Goals as goal

pub is_covered-requires : goal.is_covered-requires
is_covered-requires c =
    subst (All (λ (choice : List Term). length choice ≡ length c.args.terms.now))
    (sym (rest_of c.saturating_sub-last.result c.deref.result.now c.args.choices.now.items c.deref.ensures.value))
    (All-drop (λ (choice : List Term). length choice ≡ length c.args.terms.now) c.saturating_sub-last.result c.args.choices.now.items
    c.requires)

pub returns-then-is_covered-clause-covers : goal.returns-then-is_covered-clause-covers
returns-then-is_covered-clause-covers c = λ sigma fits.
    let one = c.is_covered.ensures c.if-is_covered.true sigma fits in (
      one.0,
      among-dropped c.saturating_sub-last.result c.args.choices.now.items one.0
          (subst (λ (l : List (List Term)). Contains l one.0)
          (rest_of c.saturating_sub-last.result c.deref.result.now c.args.choices.now.items c.deref.ensures.value) one.1),
      one.2,
    )

pub returns-clause-long : goal.returns-clause-long
returns-clause-long c =
    on_ok c.push.result (pushed-all (λ (choice : List Term). length choice ≡ length c.args.terms.now) c.args.choices.now.items
    c.push.new.items.items c.in_ok-choice.choice c.requires (ap length c.in_ok-choice.ensures)) c.push.ensures.ok

pub returns-clause-kept : goal.returns-clause-kept
returns-clause-kept c =
    on_ok c.push.result (λ put sigma. pushed-kept (λ (choice : List Term). FitsTerms choice sigma) c.args.choices.now.items
    c.push.new.items.items c.in_ok-choice.choice put) c.push.ensures.ok

pub returns-clause-covers : goal.returns-clause-covers
returns-clause-covers c =
    on_ok c.push.result (λ put sigma fits. pushed-last
    (λ (choice : List Term). FitsTerms choice sigma) c.args.choices.now.items c.push.new.items.items c.in_ok-choice.choice put
    (subst (λ (l : List Term). FitsTerms l sigma) (sym c.in_ok-choice.ensures) fits)) c.push.ensures.ok
