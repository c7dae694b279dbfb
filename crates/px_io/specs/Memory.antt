-- The source and the sink in memory.
use Rattle.std.specs.Prelude.{◌<◌, ◌≤◌, ℕ, ◌+◌, min, ◌^◌, ◌-◌, ◌⊎◌, List, [], ◌∷◌, length, Contains, Bool, true, false, cond, Option, Some, None}
use Rattle.px_base.specs.Bounds.{u32_max}

-- A source: the bytes that are left, how many were taken, how many it gives at most at a read, the numbers of the
-- reads that fail, the number of the next read, and how many failed.
pub record SourceValue : Type 0 where
  pub left : List ℕ
  pub taken : ℕ
  pub most : ℕ
  pub failing : List ℕ
  pub call : ℕ
  pub faults : ℕ

-- A sink: the bytes that were written, how many it has room for, the numbers of the writes that fail, the number of
-- the next write, and how many failed.
pub record SinkValue : Type 0 where
  pub written : List ℕ
  pub room : ℕ
  pub failing : List ℕ
  pub call : ℕ
  pub faults : ℕ

-- the number of the next call, which stops at the greatest number of 32 bits
abbrev pub next_call : ℕ → ℕ
next_call call = min (call + 1) u32_max

-- no call is listed as one that fails
abbrev pub lists_none : List ℕ → Bool
lists_none [] = true
lists_none (_ ∷ _) = false

-- a sink with no listed call is sure to take as many bytes as it has room for
abbrev pub sure_room : SinkValue → Option ℕ
sure_room sink = cond (lists_none sink.failing) (Some sink.room) None

-- the next write of `len` bytes fails: it is listed, or the room is full and there is a byte to write
abbrev pub WriteFails : SinkValue → ℕ → Type 0
WriteFails sink len = Contains sink.failing sink.call ⊎ ((sink.room ≤ length sink.written) × (0 < len))
