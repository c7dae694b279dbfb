-- How many tables are learned, and how long they are.
use Rattle.std.specs.Prelude.{ℕ}

-- the most learned tables
abbrev pub most_tables : ℕ
most_tables = 32

-- the most steps of a plan that is generalised, and so of a learned table
abbrev pub most_steps : ℕ
most_steps = 64
