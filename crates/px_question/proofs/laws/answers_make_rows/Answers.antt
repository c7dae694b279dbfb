use Rattle.px_question.proofs.RowLaws.{answers-make_rows as the_law}
use Rattle.px_question.proofs.laws.answers_make_rows.Goals as goal

pub returns : goal.returns
returns c = the_law
