-- The trees of the smallest searches.
use Rattle.std.specs.Prelude.{ℕ, None, Some, [], ◌∷◌}
use Rattle.px_tree.specs.declared.nodes.MoveKind.{MoveKind}
use Rattle.px_tree.specs.declared.nodes.MoveKind.TheVariants.{Apply, Push}
use Rattle.px_tree.specs.declared.nodes.TreeEnd.TheVariants.{Solved, Exhausted, More}
use Rattle.px_tree.specs.declared.nodes.TreeNode.{TreeNode}
use Rattle.px_ends.specs.WorkedEnds.{maker, p_from_none, stuck}
use Rattle.px_ends.specs.Trees.{IsTree}

-- the first node, which needs so much
abbrev pub first_node : ℕ → TreeNode
first_node count = record { origin = None; needs = count }

-- the node that is found from that at the place by pushing or applying the operator that adds P and needs nothing
abbrev pub by_maker : MoveKind → ℕ → ℕ → TreeNode
by_maker kind place count = record {
  origin = Some (record { parent = place; last = record { kind = kind; table = None; steps = record { op = 1; args = [] } ∷ [] } });
  needs = count;
}

-- Where two operators add P, but one of them isn't open, P is reached from nothing by a push of the other and an application: the tree has
-- three nodes. With room for two nodes it has the first two of them, and two moves lead to one more. With the operator alone that isn't
-- open it has one node.
pub record TreeFacts : Type 0 where
  pub made : (weight : ℕ) → IsTree (p_from_none (stuck ∷ maker ∷ []) 3) weight
      (record { nodes = first_node 1 ∷ by_maker Push 0 1 ∷ by_maker Apply 1 0 ∷ []; end = Solved })
  pub no_room : (weight : ℕ) → IsTree (p_from_none (stuck ∷ maker ∷ []) 2) weight
      (record { nodes = first_node 1 ∷ by_maker Push 0 1 ∷ []; end = More 2 })
  pub not_open : (weight : ℕ) → IsTree (p_from_none (stuck ∷ []) 1) weight (record { nodes = first_node 1 ∷ []; end = Exhausted })
