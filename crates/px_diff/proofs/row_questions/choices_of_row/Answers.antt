use Rattle.std.proofs.Common.{◌≡◌, List, length, sym, subst}
use Rattle.std.specs.Prelude.{All}
use Rattle.std.proofs.lemmas.List.Elements.{All-nil}
use Rattle.px_question.specs.Settings.{setting_of}
use Rattle.px_terms.specs.declared.term.Term.{Term}
use Rattle.px_diff.specs.RowQuestions.{IsRowKnown}
use Rattle.px_diff.proofs.row_questions.choices_of_row.Goals as goal

pub returns : goal.returns
returns c =
    let s = setting_of c.args.question.now.problem.now c.args.question.now.model.now.atoms in
    let table = c.args.question.now.table.now in
    let terms = c.args.terms.now in
    let here = c.in_ok-add_choices.ensures in
    let none = All-nil (λ (choice : List Term). length choice ≡ table.params) in
    subst (λ (l : List (List Term)). IsRowKnown s table terms c.args.question.now.row l c.from_vec-2.result) (sym c.from_vec.ensures)
    (subst (λ (l : List (List Term)). IsRowKnown s table terms c.args.question.now.row c.add_choices.new.choices.items l)
    (sym c.from_vec-2.ensures) (record {
      long = here.choices.long (subst (All (λ (choice : List Term). length choice ≡ table.params)) (sym c.new-choices.ensures.items) none);
      limited_long =
          here.limited.long (subst (All (λ (choice : List Term). length choice ≡ table.params)) (sym c.new-limited.ensures.items) none);
      asked = here.known;
    }))
