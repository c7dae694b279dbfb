use Rattle.std.proofs.Common.{map}
use Rattle.px_proof.specs.ProofTerm.{derivation_of}
use Rattle.px_replay.proofs.RowSteps.{GoesRow}
use Rattle.px_replay.proofs.rows.replay_row.Given as goal

abbrev pub invariant-loop-k : goal.invariant-loop-k
invariant-loop-k l = GoesRow l.arena l.atoms (map derivation_of l.row) l.initial.bind l.bind l.k
