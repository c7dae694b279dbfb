-- That a kind of things is finite.
use Rattle.std.specs.Prelude.{List, Contains}

-- a list has all things of which P holds
pub record IsFinite {A : Type 0} (P : A → Type 0) : Type 0 where
  pub members : List A
  pub all : (a : A) → P a → Contains members a
