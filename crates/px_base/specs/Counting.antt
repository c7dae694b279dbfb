-- Counting calls.
use Rattle.std.specs.Prelude.{◌+◌, ℕ, min}
use Rattle.px_base.specs.Bounds.{u64_max}

-- one more; the greatest number of 64 bits stays
abbrev pub next_count : ℕ → ℕ
next_count count = min (count + 1) u64_max
