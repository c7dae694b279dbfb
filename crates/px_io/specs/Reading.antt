-- What reading to the end of a source gives.
use Rattle.std.specs.Prelude.{◌≡◌, ◌≤◌, ◌+◌, ℕ, List, length, Option}
use Rattle.std.specs.Io.KnownBytes.{Consumes, IsAtEnd}

-- The source was read to its end, these bytes came, and no read failed.
pub record ReadToEnd (limit : ℕ) (bytes : List ℕ) (left left_after : Option (List ℕ)) (taken taken_after faults faults_after : ℕ) : Type 0
  where
    pub all : Consumes left left_after bytes
    pub at_end : IsAtEnd left_after
    pub count : taken_after ≡ taken + length bytes
    pub short : length bytes ≤ limit
    pub no_fault : faults_after ≡ faults
