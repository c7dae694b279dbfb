-- The greatest numbers of 32 and of 64 bits.
use Rattle.std.specs.Prelude.{ℕ}

-- the greatest number of 32 bits
abbrev pub u32_max : ℕ
u32_max = 4294967295

-- the greatest number of 64 bits
abbrev pub u64_max : ℕ
u64_max = 18446744073709551615
