use Rattle.px_table.specs.Tables.{rows_of}
use Rattle.px_replay.proofs.RowSteps.{GoesRows}
use Rattle.px_replay.proofs.rows.replay_rows.Given as goal

abbrev pub invariant-loop-k : goal.invariant-loop-k
invariant-loop-k l = GoesRows l.problem l.steps l.goal (rows_of l.rows) l.initial.bind l.bind l.k
