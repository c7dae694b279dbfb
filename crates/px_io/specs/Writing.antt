-- What a sink holds after a text was put into it.
use Rattle.std.specs.Prelude.{◌≡◌, ◌<◌, ◌≤◌, ◌+◌, ℕ, List, ◌++◌, length, Option, IfSome}
use Rattle.std.specs.Io.KnownBytes.{Appends}

-- a part of the text from its start was appended
pub record AppendsPrefix (old new : Option (List ℕ)) (text prefix rest : List ℕ) : Type 0 where
  pub whole : text ≡ prefix ++ rest
  pub appended : Appends old new prefix

-- a part of the text from its start was appended, and not the whole text
abbrev pub AppendsProperPrefix : Option (List ℕ) → Option (List ℕ) → List ℕ → Type 0
AppendsProperPrefix old new text = (prefix : List ℕ) × (rest : List ℕ) × AppendsPrefix old new text prefix rest × (0 < length rest)

-- A sink holds all that it is sure to take. Where it is sure of nothing, or doesn't show what it holds, nothing is said.
abbrev pub FillsItsRoom : Option ℕ → Option (List ℕ) → Type 0
FillsItsRoom sure written = IfSome sure (λ room. IfSome written (λ held. room ≤ length held))

-- what a sink holds and the text together are more than it is sure to take
abbrev pub HasNoRoomFor : Option ℕ → Option (List ℕ) → List ℕ → Type 0
HasNoRoomFor sure written text = IfSome sure (λ room. IfSome written (λ held. room < length held + length text))
