-- The node that a pair of numbers stands for.
use Rattle.std.specs.Prelude.{◌≤◌, ℕ, List, [], ◌∷◌, ◌++◌, Option, None, Some, length, map, slice_get}
use Rattle.std.proofs.Common.{zero, suc}
use Rattle.px_terms.specs.declared.atom.Atom.{Atom}
use Rattle.px_table.specs.declared.entry.Entry.{Entry}
use Rattle.px_table.specs.declared.node.Node.{Node}
use Rattle.px_numbers.specs.declared.nodes.NodeKey.{NodeKey}
use Rattle.px_numbers.specs.declared.stacks.Frame.{Frame}
use Rattle.px_numbers.specs.Numbers.{Kept, AllStand}

-- the item, if there is one
abbrev pub items_or_none : {X : Type 0} → Option X → List X
items_or_none None = []
items_or_none (Some x) = x ∷ []

-- the items at the places
unfoldable pub items_at : {X : Type 0} → List X → List ℕ → List X
items_at items [] = []
items_at items (place ∷ places) = items_or_none (slice_get items place) ++ items_at items places

-- the atoms of these numbers, if there are any
abbrev pub atoms_numbered : List Atom → Option (List ℕ) → List Atom
atoms_numbered atoms None = []
atoms_numbered atoms (Some numbers) = items_at atoms numbers

-- the number of the stack below
abbrev pub below_of : Option Frame → ℕ
below_of None = 0
below_of (Some frame) = frame.below

-- the top entry, if there is one
abbrev pub top_of : List Entry → Option Frame → List Entry
top_of entries None = []
top_of entries (Some frame) = items_or_none (slice_get entries frame.entry)

-- the stack of the number, of which at most the first number of entries are looked up
unfoldable pub stack_of : Kept → ℕ → ℕ → List Entry
stack_of kept zero number = []
stack_of kept (suc most) zero = []
stack_of kept (suc most) (suc place) = top_of kept.entries (slice_get kept.frames place) ++ stack_of kept most
    (below_of (slice_get kept.frames place))

-- the node of the pair
abbrev pub kept_node : Kept → NodeKey → Node
kept_node kept key =
    record { model = atoms_numbered kept.atoms (slice_get kept.lists key.model); stack = stack_of kept key.stack key.stack }

-- the nodes of the pairs, in order
abbrev pub nodes_of : Kept → List NodeKey → List Node
nodes_of kept keys = map (kept_node kept) keys

-- there are at least that many pairs, and each stands for the node that is made of it
pub record AreFirst (kept : Kept) (keys : List NodeKey) (count : ℕ) : Type 0 where
  pub few : count ≤ length keys
  pub stand : AllStand kept keys (nodes_of kept keys)
