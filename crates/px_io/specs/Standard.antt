-- What contracts see of a source over a reader and of a sink over a writer.
use Rattle.std.specs.Prelude.{ℕ}

-- the reader, how many bytes were taken, and how often a read failed
pub record SourceState (R : Type 0) : Type 0 where
  pub reader : R
  pub taken : ℕ
  pub faults : ℕ

-- the writer, and how often a write failed
pub record SinkState (W : Type 0) : Type 0 where
  pub writer : W
  pub faults : ℕ
