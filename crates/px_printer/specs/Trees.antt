-- The texts of search trees.
use Rattle.std.specs.Prelude.{◌+◌, ◌<◌, ℕ, List, [], ◌∷◌, ◌++◌, All, Option, None, Some, codes, length, map, slice_index_or}
use Rattle.std.specs.Fmt.{decimal}
use Rattle.px_names.specs.Lists.{NameLists}
use Rattle.px_names.specs.declared.kind.Kind.TheVariants as kind
use Rattle.px_tree.specs.declared.nodes.MoveKind.{MoveKind}
use Rattle.px_tree.specs.declared.nodes.MoveKind.TheVariants.{Push, Apply}
use Rattle.px_tree.specs.declared.nodes.Tree.{Tree}
use Rattle.px_tree.specs.declared.nodes.TreeEnd.{TreeEnd}
use Rattle.px_tree.specs.declared.nodes.TreeEnd.TheVariants.{Solved, Exhausted, More, ShapeLimit}
use Rattle.px_tree.specs.declared.nodes.TreeMove.{TreeMove}
use Rattle.px_tree.specs.declared.nodes.TreeNode.{TreeNode}
use Rattle.px_tree.specs.declared.nodes.TreeOrigin.{TreeOrigin}
use Rattle.px_printer.specs.Texts.{HasName, IsNamedInstance, after_spaces, indented_line, instance_text, name_text}
use Rattle.px_printer.specs.declared.spelling.Spelling.TheVariants.{InRows}

-- ---- names: a move says a learned table by its place among these, which are the numbers of their names

abbrev pub IsPlaceIn : List ℕ → Option ℕ → Type 0
IsPlaceIn tables None = Unit {0}
IsPlaceIn tables (Some place) = place < length tables

-- the table is one of these, and the numbers of the steps have their names
pub record IsNamedMove (names : NameLists) (tables : List ℕ) (move : TreeMove) : Type 0 where
  pub table : IsPlaceIn tables move.table
  pub steps : All (IsNamedInstance names) move.steps

abbrev pub IsNamedOrigin : NameLists → List ℕ → Option TreeOrigin → Type 0
IsNamedOrigin names tables None = Unit {0}
IsNamedOrigin names tables (Some origin) = IsNamedMove names tables origin.last

abbrev pub IsNamedNode : NameLists → List ℕ → TreeNode → Type 0
IsNamedNode names tables node = IsNamedOrigin names tables node.origin

-- the tables have their names, and so has what the nodes say
pub record IsNamedTree (names : NameLists) (learned : List ℕ) (found : List TreeNode) : Type 0 where
  pub tables : All (HasName names kind.Result) learned
  pub nodes : All (IsNamedNode names learned) found

-- ---- lines

abbrev pub kind_text : MoveKind → List ℕ
kind_text Push = codes "push"
kind_text Apply = codes "apply"

-- the name of the table, if there is one
abbrev pub table_words : NameLists → List ℕ → Option ℕ → List (List ℕ)
table_words names tables None = []
table_words names tables (Some place) = name_text names kind.Result (slice_index_or tables place 0) ∷ []

-- what is done, then the entry: an operator's instance, or a table and its first steps
abbrev pub move_words : NameLists → List ℕ → TreeMove → List (List ℕ)
move_words names tables move =
    kind_text move.kind ∷ (table_words names tables move.table ++ map (instance_text names (InRows 0)) move.steps)

-- from which place the node was found, and by which move
abbrev pub origin_words : NameLists → List ℕ → Option TreeOrigin → List (List ℕ)
origin_words names tables None = []
origin_words names tables (Some origin) = codes "from" ∷ decimal origin.parent ∷ move_words names tables origin.last

-- the node at that place
abbrev pub node_line : NameLists → List ℕ → ℕ → TreeNode → List ℕ
node_line names tables place node = codes "  " ++ (decimal place
    ++ (after_spaces (origin_words names tables node.origin) ++ (codes " needs " ++ (decimal node.needs ++ codes "\n"))))

-- the nodes, where the first stands at that place
abbrev pub node_lines : NameLists → List ℕ → ℕ → List TreeNode → List ℕ
node_lines names tables place [] = []
node_lines names tables place (node ∷ nodes) = node_line names tables place node ++ node_lines names tables (place + 1) nodes

abbrev pub tree_end_line : TreeEnd → List ℕ
tree_end_line Solved = indented_line (codes "solved" ∷ [])
tree_end_line Exhausted = indented_line (codes "exhausted" ∷ [])
tree_end_line (More moves) = indented_line (codes "more" ∷ decimal moves ∷ codes "moves" ∷ [])
tree_end_line (ShapeLimit shapes) = indented_line (codes "shapelimit" ∷ decimal shapes ∷ codes "shapes" ∷ [])
