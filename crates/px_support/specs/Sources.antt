-- Where facts come from, as the code finds it.
use Rattle.std.specs.Prelude.{◌≡◌, ◌≢◌, ◌<◌, ℕ, Some, List, map, slice_get, All}
use Rattle.px_terms.specs.declared.atom.Atom.{Atom}
use Rattle.px_terms.specs.declared.instance.OpInst.{OpInst}
use Rattle.px_terms.specs.declared.problem.Problem.{Problem}
use Rattle.px_proof.specs.declared.proof.Leaf.{Leaf}
use Rattle.px_proof.specs.Derivation.{Derivation, fact, leaf_atoms, leaves_of}
use Rattle.px_ends.specs.Made.{IsSource}

-- the atom stands at the place, and at no place before
pub record IsFirstPlace (atoms : List Atom) (atom : Atom) (place : ℕ) : Type 0 where
  pub here : slice_get atoms place ≡ Some atom
  pub first : (i : ℕ) → i < place → slice_get atoms i ≢ Some atom

-- the parts are leaves of the same atoms that name where these come from
abbrev pub AreSources : Problem → List OpInst → List Leaf → List Derivation → Type 0
AreSources problem made old parts =
    (leaves : List Leaf) × (leaf_atoms leaves ≡ leaf_atoms old) × All (IsSource problem made) leaves
    × (parts ≡ map (λ leaf. fact leaf) leaves)

-- the leaves are all in column 0, as those of an answer of the prover are
abbrev pub HasFirstLeaves : Derivation → Type 0
HasFirstLeaves d = All (λ leaf. leaf.column ≡ 0) (leaves_of d)
