-- Each search has an end, and a tree.
use Rattle.std.specs.Prelude.{◌⊎◌, ℕ, List}
use Rattle.px_table.specs.declared.entry.Move.{Move}
use Rattle.px_table.specs.declared.node.Node.{Node}
use Rattle.px_gaps.specs.declared.question.MetLimit.{MetLimit}
use Rattle.px_ends.specs.ByValue.{IsExhausted, IsFound, IsNodeLimit, IsShapeLimit}
use Rattle.px_ends.specs.Tasks.{Task}
use Rattle.px_ends.specs.Trees.{IsTree}
use Rattle.px_tree.specs.declared.nodes.Tree.{Tree}

-- some moves are found with the weight, or the search is exhausted, or it meets the limit of nodes or that of shapes
abbrev pub HasEnd : Task → ℕ → Type 0
HasEnd task weight =
    ((moves : List Move) × IsFound task weight moves)
    ⊎ (IsExhausted task weight
    ⊎ (((nodes : List Node) × (moves : ℕ) × IsNodeLimit task weight nodes moves)
    ⊎ ((node : Node) × (limit : MetLimit) × IsShapeLimit task weight node limit)))

-- There is no task whose search with some weight has none of the four ends. (A double negation: which one it is takes a search to say.)
abbrev pub SearchesEnd : Type 0
SearchesEnd = (task : Task) (weight : ℕ) → ¬ ¬ HasEnd task weight

-- so there is none whose search has no tree
abbrev pub TreesExist : Type 0
TreesExist = (task : Task) (weight : ℕ) → ¬ ¬ ((tree : Tree) × IsTree task weight tree)
