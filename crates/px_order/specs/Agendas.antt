-- Ranks: by what places are picked.
use Rattle.std.specs.Prelude.{ℕ}
use Rattle.std.specs.declared.cmp.Reverse.{Reverse}

-- A value and a place. The least value has the highest rank, and of one value the least place.
abbrev pub Rank : Type 0
Rank = Reverse (ℕ × ℕ)

abbrev pub rank_of : ℕ → ℕ → Rank
rank_of value place = record { 0 = (value, place) }

abbrev pub rank_value : Rank → ℕ
rank_value rank = rank.0.0

abbrev pub rank_place : Rank → ℕ
rank_place rank = rank.0.1
