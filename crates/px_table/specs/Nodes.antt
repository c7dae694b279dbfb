-- When nodes are equal, and how they are hashed.
use Rattle.std.specs.Prelude.{◌≡◌, Bool, ◌&&◌, ◌++◌}
use Rattle.std.specs.Bool.{Decides}
use Rattle.std.specs.Cmp.Lexicographic.{pointwise}
use Rattle.std.specs.Hash as fed
use Rattle.px_terms.specs.Order.{atom_eq, atom_hash_input}
use Rattle.px_table.specs.EntryOrder.{entry_eq, entry_hash_input}
use Rattle.px_table.specs.NodeValue.{NodeValue}

-- what `==` of nodes computes
abbrev pub node_eq : NodeValue → NodeValue → Bool
node_eq m n = pointwise entry_eq m.stack n.stack && pointwise atom_eq m.model n.model

-- what a hash of a node is fed
abbrev pub node_hash_input : NodeValue → fed.HashWrites
node_hash_input n = fed.slice entry_hash_input n.stack ++ fed.slice atom_hash_input n.model

-- `==` of nodes says that they are the same: the same atoms, and the same stack
abbrev pub NodesAreCompared : Type 0
NodesAreCompared = (first second : NodeValue) → Decides (node_eq first second) (first ≡ second)
