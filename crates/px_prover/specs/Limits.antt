-- The limits of what the prover is asked.
use Rattle.std.specs.Prelude.{ℕ}

-- the most variables of a formula whose gaps are asked for
abbrev pub most_gap_variables : ℕ
most_gap_variables = 4096
