-- Things that are kept once: each has the number of its place.
use Rattle.std.specs.Prelude.{◌≡◌, ◌≤◌, ◌⊎◌, ℕ, List, [], ◌∷◌, ◌++◌, Some, length, slice_get, All, Contains}
use Rattle.px_base.specs.Bounds.{u32_max}
use Rattle.px_terms.specs.declared.atom.Atom.{Atom}
use Rattle.px_terms.specs.Instances.{IsGround}

-- no item stands at two places
abbrev pub AreOnce : {X : Type 0} → List X → Type 0
AreOnce {X} items = (i j : ℕ) (x : X) → slice_get items i ≡ Some x → slice_get items j ≡ Some x → i ≡ j

-- each item keeps its place
abbrev pub KeepsPlaces : {X : Type 0} → List X → List X → Type 0
KeepsPlaces {X} old new = (k : ℕ) (x : X) → slice_get old k ≡ Some x → slice_get new k ≡ Some x

-- The item has this number in the new list. Either the old list had it, and nothing changed; or it was put last.
pub record Keeps {X : Type 0} (old new : List X) (item : X) (number : ℕ) : Type 0 where
  pub here : slice_get new number ≡ Some item
  pub change : (Contains old item × (new ≡ old)) ⊎ ((¬ Contains old item) × (new ≡ old ++ item ∷ []))

-- ground atoms, each at one place, with a number of 32 bits for each
pub record IsAtomIndex (atoms : List Atom) : Type 0 where
  pub once : AreOnce atoms
  pub all_ground : All IsGround atoms
  pub short : length atoms ≤ u32_max
