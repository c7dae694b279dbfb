-- What a search keeps at each turn, and what it answers.
use Rattle.std.specs.Prelude.{◌≡◌, ◌+◌, ◌++◌, ℕ, Bool, List, [], ◌∷◌, None, Some, Result, Ok, Err, ⊤, length, map, take, slice_get}
use Rattle.px_table.specs.declared.entry.Move.{Move}
use Rattle.px_numbers.specs.declared.nodes.NodeKey.{NodeKey}
use Rattle.px_numbers.specs.Numbers.{Kept, AllStand, IsKeyOf}
use Rattle.px_ends.specs.ByValue.{IsExhausted, IsNodeLimit, IsShapeLimit, space_of}
use Rattle.px_ends.specs.Ends.{node_of}
use Rattle.px_ends.specs.Tasks.{Task, initial_node}
use Rattle.px_order.specs.Runs.{Begins, IsNext}
use Rattle.px_tree.specs.declared.nodes.TreeEnd.{TreeEnd}
use Rattle.px_tree.specs.declared.nodes.TreeEnd.TheVariants as tree_end
use Rattle.px_search.specs.declared.best_first.Explored.{Explored}
use Rattle.px_search.specs.declared.ends.SearchErr.{SearchErr}
use Rattle.px_search.specs.declared.ends.SearchErr.TheVariants.{Exhausted, NodeLimit, ShapeLimit, NoMemory}
use Rattle.px_search.specs.declared.picker.Picker.{Picker}
use Rattle.px_search.specs.declared.step.Origin.{Origin}
use Rattle.px_search.specs.declared.step.Step.{Step}
use Rattle.px_search.specs.declared.stop.Limit.{Limit}
use Rattle.px_search.specs.declared.stop.Stop.{Stop}
use Rattle.px_search.specs.declared.stop.Stop.TheVariants.{Solved, Full, Limited, NoMemory as OutOfMemory}
use Rattle.px_search.specs.Going.{AreFirstSuccessors}
use Rattle.px_search.specs.Cache.{AreRight}
use Rattle.px_search.specs.Picking.{IsFirstPicker, IsPickerOf}
use Rattle.px_search.specs.CurrentModels.{IsCurrent}
use Rattle.px_search.specs.Searching.{IsBetween, IsMaking, order_of}
use Rattle.px_search.specs.Steps.{AreEarlier, Trace}
use Rattle.px_ends.specs.Trees.{EndsTree, IsFirstLimit}

-- the pairs are the nodes of the found lists, in order, and each but the first comes from one before it
pub record AreNumbered (task : Task) (kept : Kept) (keys : List NodeKey) (origins : List Origin) (found : List (List Move)) : Type 0 where
  pub stand : AllStand kept keys (map (node_of task) found)
  pub trace : Trace kept origins found
  pub earlier : AreEarlier origins
  pub one_more : length keys ≡ length origins + 1

-- all moves from these places, which are all that were picked, were made
pub record Between (task : Task) (kept : Kept) (keys : List NodeKey) (origins : List Origin) (picker : Picker) (picked : List ℕ)
    : Type 0 where
  pub found : List (List Move)
  pub between : IsBetween task found picked
  pub numbered : AreNumbered task kept keys origins found
  pub picking : IsPickerOf task kept found picked picker

-- the place `next` was picked just now, after these places
pub record AtPick (task : Task) (kept : Kept) (keys : List NodeKey) (origins : List Origin) (picker : Picker) (picked : List ℕ) (next : ℕ)
    : Type 0 where
  pub found : List (List Move)
  pub between : IsBetween task found picked
  pub is_next : IsNext (space_of task) (order_of task) found picked next
  pub numbered : AreNumbered task kept keys origins found
  pub picking : IsPickerOf task kept found (next ∷ picked) picker

-- the place `next` was picked after these places, and these moves from it were made
pub record Going (task : Task) (kept : Kept) (keys : List NodeKey) (origins : List Origin) (picker : Picker) (picked : List ℕ) (next : ℕ)
    (tried : List Move) : Type 0 where
  pub found : List (List Move)
  pub making : IsMaking task found next picked tried
  pub numbered : AreNumbered task kept keys origins found
  pub picking : IsPickerOf task kept found (next ∷ picked) picker

-- `i` of these steps, which are the first moves from the place, were made
pub record Trying (task : Task) (kept : Kept) (keys : List NodeKey) (origins : List Origin) (picker : Picker) (picked : List ℕ) (next : ℕ)
    (steps : List Step) (is_all : Bool) (i : ℕ) : Type 0 where
  pub list : List Move
  pub successors : AreFirstSuccessors task kept (node_of task list) steps is_all
  pub going : Going task kept keys origins picker picked next (take i successors.moves)
  pub list_at : slice_get going.found next ≡ Some list

-- the error is an end of the search, or there was no memory
abbrev pub IsEnd : Task → SearchErr → Type 0
IsEnd task Exhausted = IsExhausted task task.problem.weight
IsEnd task (NodeLimit nodes moves) = IsNodeLimit task task.problem.weight nodes moves
IsEnd task (ShapeLimit node limit) = IsShapeLimit task task.problem.weight node limit
IsEnd task NoMemory = Unit {0}

-- these are the lists that a search has found, and the pairs are their nodes
pub record AreFoundBy (task : Task) (kept : Kept) (keys : List NodeKey) (origins : List Origin) (found : List (List Move)) : Type 0 where
  pub begins : Begins (space_of task) (order_of task) found
  pub numbered : AreNumbered task kept keys origins found

-- the last of the nodes is the first solved one
abbrev pub IsReached : Task → Kept → List NodeKey → List Origin → Type 0
IsReached task kept keys origins =
    (found : List (List Move)) × AreFoundBy task kept keys origins found × EndsTree task task.problem.weight found tree_end.Solved

-- no node is left, and none is solved
abbrev pub IsSpent : Task → Kept → List NodeKey → List Origin → Type 0
IsSpent task kept keys origins =
    (found : List (List Move)) × AreFoundBy task kept keys origins found × EndsTree task task.problem.weight found tree_end.Exhausted

-- There is no room for the last of the nodes, which this number of moves reaches: the ones before it are those of the limit.
pub record IsFull (task : Task) (kept : Kept) (keys : List NodeKey) (origins : List Origin) (moves : ℕ) : Type 0 where
  pub found : List (List Move)
  pub end : EndsTree task task.problem.weight found (tree_end.More moves)
  pub are : AreFoundBy task kept keys origins (found ++ end.last ∷ [])

-- the question is asked at the node of the pair, and is the first that meets the limit
pub record IsLimitedAt (task : Task) (kept : Kept) (keys : List NodeKey) (origins : List Origin) (limit : Limit) : Type 0 where
  pub found : List (List Move)
  pub are : AreFoundBy task kept keys origins found
  pub first : IsFirstLimit task task.problem.weight found limit.met
  pub stands : IsKeyOf kept limit.key (node_of task first.moves)

-- ---- of all that is found and kept

-- what is kept is right
pub record IsExploring (task : Task) (explored : Explored) : Type 0 where
  pub cache : AreRight task explored.cache
  pub current : IsCurrent task explored.cache.numbers explored.current

-- all moves from these places, which are all that were picked, were made
abbrev pub GoesOn : Task → Explored → List ℕ → Type 0
GoesOn task explored picked =
    Between task explored.cache.numbers explored.nodes explored.origins.items explored.picker picked

-- the place `next` was picked just now, after these places
abbrev pub Picked : Task → Explored → List ℕ → ℕ → Type 0
Picked task explored picked next =
    AtPick task explored.cache.numbers explored.nodes explored.origins.items explored.picker picked next

-- the place `next` was picked after these places, and the first `i` of these steps from its node were made
abbrev pub TriesAt : Task → Explored → List ℕ → ℕ → List Step → Bool → ℕ → Type 0
TriesAt task explored picked next steps is_all i =
    Trying task explored.cache.numbers explored.nodes explored.origins.items explored.picker picked next steps is_all i

-- what stopped the search is so, and what is kept is right, unless memory ran out
abbrev pub StopsAt : Task → Explored → Stop → Type 0
StopsAt task explored Solved =
    IsExploring task explored × IsReached task explored.cache.numbers explored.nodes explored.origins.items
StopsAt task explored (Full moves) =
    IsExploring task explored × IsFull task explored.cache.numbers explored.nodes explored.origins.items moves
StopsAt task explored (Limited limit) =
    IsExploring task explored × IsLimitedAt task explored.cache.numbers explored.nodes explored.origins.items limit
StopsAt task explored OutOfMemory = Unit {0}

-- how the tree of a search ends that came to this, where so many shapes are the limit
abbrev pub EndsAs : ℕ → Result ⊤ Stop → TreeEnd → Type 0
EndsAs shapes (Ok done) end = end ≡ tree_end.Exhausted
EndsAs shapes (Err Solved) end = end ≡ tree_end.Solved
EndsAs shapes (Err (Full moves)) end = end ≡ tree_end.More moves
EndsAs shapes (Err (Limited limit)) end = end ≡ tree_end.ShapeLimit shapes
EndsAs shapes (Err OutOfMemory) end = ⊥

-- these are the lists that the search has found
abbrev pub AreFound : Task → Explored → List (List Move) → Type 0
AreFound task explored found = AreFoundBy task explored.cache.numbers explored.nodes explored.origins.items found

-- no node is left, and none is solved
abbrev pub IsGone : Task → Explored → Type 0
IsGone task explored = IsSpent task explored.cache.numbers explored.nodes explored.origins.items

-- the pair is the initial node, which alone is found
pub record IsStarted (task : Task) (explored : Explored) (key : NodeKey) : Type 0 where
  pub stands : IsKeyOf explored.cache.numbers key (initial_node task)
  pub nodes : explored.nodes ≡ key ∷ []
  pub origins : explored.origins.items ≡ []
  pub picker : IsFirstPicker task explored.picker

-- nothing is found yet, and what is kept is right
pub record IsUnexplored (task : Task) (explored : Explored) : Type 0 where
  pub cache : AreRight task explored.cache
  pub current : explored.current.number ≡ None
  pub nodes : explored.nodes ≡ []
  pub origins : explored.origins.items ≡ []
  pub picker : IsFirstPicker task explored.picker
