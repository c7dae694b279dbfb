use Rattle.px_question.specs.Settings.{setting_of}
use Rattle.px_gaps.specs.Bindings.{open_term_count}
use Rattle.px_diff.specs.RowQuestions.{AreAskedOf, Widens}
use Rattle.px_diff.proofs.RowSplitting.{IsBefore}
use Rattle.px_diff.proofs.row_questions.+add_choices.Given as goal

abbrev pub decreases-add_choices : goal.decreases-add_choices
decreases-add_choices l = open_term_count l.terms.now

abbrev pub invariant-loop-object : goal.invariant-loop-object
invariant-loop-object l = record {
  choices : Widens l.question.table.now.params l.fn.choices.items l.choices.items;
  limited : Widens l.question.table.now.params l.fn.limited.items l.limited.items;
  known : AreAskedOf (setting_of l.question.problem.now l.question.model.now.atoms) l.question.table.now l.question.row
      (IsBefore l.question.problem.now.objects l.terms l.parameter l.object) l.choices.items l.limited.items;
}
