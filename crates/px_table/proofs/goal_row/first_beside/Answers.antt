use Rattle.std.proofs.Common.{sym, ◌∙◌}
use Rattle.px_table.proofs.Choosing.{beside_end}
use Rattle.px_table.proofs.goal_row.first_beside.Goals as goal

pub returns-then-k-terms : goal.returns-then-k-terms
returns-then-k-terms c =
    sym (beside_end c.args.variable c.args.patterns.now c.args.terms.now c.loop-k.k c.if-k-terms.true) ∙ c.loop-k.invariant
