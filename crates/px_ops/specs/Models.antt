-- World models as sets of ground atoms, and the place of an atom in one.
use Rattle.std.specs.Cmp.Lexicographic.{pointwise}
use Rattle.std.specs.Hash as fed
use Rattle.std.specs.Prelude.{◌≡◌, ◌≤◌, ◌<◌, ◌+◌, ℕ, Bool, not, List, length, take, drop, filter, All, Result, Ok, Err, slice_index_or}
use Rattle.std.specs.List.{AllByRecursion}
use Rattle.std.specs.declared.cmp.Ordering.TheVariants.{Less}
use Rattle.px_base.specs.Bounds.{u32_max}
use Rattle.px_terms.specs.declared.atom.Atom.{Atom}
use Rattle.px_terms.specs.declared.instance.OpInst.{OpInst}
use Rattle.px_terms.specs.declared.problem.Schema.{Schema}
use Rattle.px_terms.specs.Instances.{IsGround}
use Rattle.px_terms.specs.Order.{atom_cmp, atom_eq, atom_hash_input}
use Rattle.px_terms.specs.AtomSets.{IsAtomSet}
use Rattle.px_ops.specs.ModelValue.{ModelValue}

-- a world model: a set of ground atoms, with a number for each place
pub record IsModel (atoms : List Atom) : Type 0 where
  pub ascending : IsAtomSet atoms
  pub all_ground : All IsGround atoms
  pub short : length atoms ≤ u32_max

-- models are equal where their atoms are; how much room is left doesn't count
abbrev pub model_eq : ModelValue → ModelValue → Bool
model_eq m n = pointwise atom_eq m.atoms n.atoms

-- what a hash of a model is fed: its atoms
abbrev pub model_hash_input : ModelValue → fed.HashWrites
model_hash_input m = fed.slice atom_hash_input m.atoms

-- the set without an atom
abbrev pub without_atom : Atom → List Atom → List Atom
without_atom atom atoms = filter (λ other. not (atom_eq other atom)) atoms

-- the atoms before the place are below the atom, and those after it are above
pub record Parts (atom : Atom) (before after : List Atom) : Type 0 where
  pub below : AllByRecursion (λ other. atom_cmp other atom ≡ Less) before
  pub above : AllByRecursion (λ other. atom_cmp atom other ≡ Less) after

-- where an atom stands in a set, or where it would
abbrev pub IsPlace : List Atom → Atom → Result ℕ ℕ → Type 0
IsPlace atoms atom (Ok place) = (place < length atoms) × (slice_index_or atoms place atom ≡ atom)
    × Parts atom (take place atoms) (drop (place + 1) atoms)
IsPlace atoms atom (Err place) = (place ≤ length atoms) × Parts atom (take place atoms) (drop place atoms)

-- the instance has an argument for each parameter of the schema
abbrev pub IsInstanceOfSchema : Schema → OpInst → Type 0
IsInstanceOfSchema schema inst = length inst.args ≡ schema.params
