use Rattle.std.proofs.Common.{◌≡◌, drop}
use Rattle.px_table.specs.Choices.{term_beside}
use Rattle.px_table.proofs.goal_row.first_beside.Given as goal

abbrev pub invariant-loop-k : goal.invariant-loop-k
invariant-loop-k l = term_beside l.variable (drop l.k l.patterns) (drop l.k l.terms) ≡ term_beside l.variable l.patterns l.terms
