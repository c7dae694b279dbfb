use Rattle.px_statements.proofs.Common.{◌∙◌, ap, sym}
use Rattle.px_script.proofs.ReadRows.{made-of}
use Rattle.px_script.specs.Declarations.{has_building}
use Rattle.px_script.specs.Rows.{statement_of}
use Rattle.px_lines.specs.LineViews.{line_view}
use Rattle.px_statements.proofs.statements.statement.Goals as goal

pub returns-clause-undoes_line_of : goal.returns-clause-undoes_line_of
returns-clause-undoes_line_of c = λ d s building formed same. c.made_by_rows.ensures
    ∙ ap (λ t. statement_of t (line_view c.args.line.now)) (sym building) ∙ ap (statement_of (has_building d)) same ∙ made-of d s formed
