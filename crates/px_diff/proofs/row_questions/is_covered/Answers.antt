use Rattle.std.proofs.Common.{◌≡◌, ◌∙◌, List, length, ap, sym, subst}
use Rattle.px_base.specs.ListLaws.{All-at}
use Rattle.px_terms.specs.declared.term.Term.{Term}
use Rattle.px_entries.specs.Parameters.{FitsTerms}
use Rattle.px_base.proofs.Loops.{contains_here}
use Rattle.px_diff.proofs.row_questions.is_covered.Goals as goal

pub is_wider-requires : goal.is_wider-requires
is_wider-requires c =
    sym (ap length c.as_slice.ensures
    ∙ All-at (λ (choice : List Term). length choice ≡ length c.args.terms.now) c.args.choices.now c.choice-item.result c.requires
    (contains_here c.args.choices.now c.loop-choice.choice-index c.choice-item.result c.loop-choice-test.true c.choice-item.is))

pub returns-then-is_wider : goal.returns-then-is_wider
returns-then-is_wider c = λ _ sigma fits. (
  c.choice-item.result,
  contains_here c.args.choices.now c.loop-choice.choice-index c.choice-item.result c.loop-choice-test.true c.choice-item.is,
  subst (λ (l : List Term). FitsTerms l sigma) c.as_slice.ensures (c.is_wider.ensures c.if-is_wider.true sigma fits),
)
