use Rattle.std.proofs.Common.{rules}
use Rattle.std.proofs.lemmas.Iterator.{YieldsList-from_slice}
use Rattle.std.proofs.lemmas.Iterator.Search.{find_from_yields_List}
use Rattle.px_lines.proofs.Common.{◌∙◌, bytes_eq}
use Rattle.px_lines.proofs.RowTable.{other-found}
use Rattle.px_lines.specs.declared.rows.Row.{Row}
use Rattle.px_lines.proofs.rows.row_among.Goals as goal

pub returns : goal.returns
returns c = λ b other. other-found b c.args.word.now c.args.rows.now c.copied.result other
    (c.copied.ensures ∙ find_from_yields_List (λ (row : Row). bytes_eq c.args.word.now row.word.now) _ _ _ c.find.ensures.ran
    (YieldsList-from_slice c.args.rows.now cc) (λ x b q called. search (rules))) (c.requires b)
