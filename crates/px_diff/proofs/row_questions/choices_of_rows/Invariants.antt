use Rattle.px_question.specs.Settings.{setting_of}
use Rattle.px_diff.specs.RowQuestions.{AreRowsKnown}
use Rattle.px_diff.proofs.row_questions.choices_of_rows.Given as goal

abbrev pub invariant-loop-place : goal.invariant-loop-place
invariant-loop-place l = AreRowsKnown (setting_of l.problem l.model.atoms) l.table l.terms l.place l.rows.items l.limited_rows.items
