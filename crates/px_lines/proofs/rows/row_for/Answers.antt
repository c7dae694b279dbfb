use Rattle.px_lines.proofs.Common.{refl, sym, ◌∙◌}
use Rattle.px_lines.proofs.rows.row_for.Goals as goal

pub row_among-requires : goal.row_among-requires
row_among-requires c = λ b. refl

pub returns-else-eq : goal.returns-else-eq
returns-else-eq c = c.row_among.ensures c.args.with_building (sym c.eq.ensures ∙ c.if-eq.false)
