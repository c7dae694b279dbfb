-- Atoms by their predicates and first arguments.
use Rattle.std.specs.Prelude.{◌≡◌, ℕ, ◌<◌, ◌≤◌, Some, List, length, slice_get, take}
use Rattle.px_terms.specs.Instances.{IsGround}
use Rattle.px_terms.specs.declared.atom.Atom.{Atom}
use Rattle.px_proof_state.specs.Apart.{AreApart}

-- the atom with only its first arguments, at most `count`
abbrev pub beginning : ℕ → Atom → Atom
beginning count atom = record { pred = atom.pred; args = take count atom.args }

-- the ground facts that are instances of the atom stand from the first place on, before the last one
pub record HasItsFacts (facts : List Atom) (atom : Atom) (first last : ℕ) : Type 0 where
  pub within : last ≤ length facts
  pub before : (k : ℕ) (fact : Atom) → slice_get facts k ≡ Some fact → k < first → IsGround fact → AreApart atom fact
  pub after : (k : ℕ) (fact : Atom) → slice_get facts k ≡ Some fact → last ≤ k → IsGround fact → AreApart atom fact

-- no ground fact from the first place on, before the last one, is an instance of the atom
pub record HasNone (facts : List Atom) (atom : Atom) (first last : ℕ) : Type 0 where
  pub apart : (k : ℕ) (fact : Atom) → slice_get facts k ≡ Some fact → first ≤ k → k < last → IsGround fact → AreApart atom fact
