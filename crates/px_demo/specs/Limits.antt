-- Which demos there are.
use Rattle.std.specs.Prelude.{ℕ}

-- the fewest rooms
abbrev pub least_rooms : ℕ
least_rooms = 3

-- the most rooms
abbrev pub most_rooms : ℕ
most_rooms = 12

-- the greatest seed
abbrev pub most_seed : ℕ
most_seed = 2147483647
