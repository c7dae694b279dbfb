use Rattle.px_lines.proofs.Common.{◌∙◌}
use Rattle.px_lines.proofs.Views.{no-word, word-there}
use Rattle.px_lines.proofs.rows.is_word.Goals as goal

pub returns-in-Some : goal.returns-in-Some
returns-in-Some c = c.is_of.ensures ∙ word-there c.args.version c.args.name.now c.in-Some.row c.in-Some.ensures

pub returns-in-None : goal.returns-in-None
returns-in-None c = no-word c.args.version c.args.name.now c.in-None.ensures
