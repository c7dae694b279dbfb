-- Which place is picked next, by what the picker keeps.
use Rattle.std.specs.Prelude.{◌≡◌, ◌+◌, ◌*◌, ◌<◌, ◌++◌, ◌∷◌, ℕ, List, [], Some, length, slice_get, All, Contains, IsPermutation}
use Rattle.px_table.specs.declared.entry.Move.{Move}
use Rattle.px_order.specs.Agendas.{rank_of}
use Rattle.px_order.specs.Breadth.{down_from}
use Rattle.px_order.specs.OpenPlaces.{IsAgendaOf}
use Rattle.px_numbers.specs.declared.nodes.NodeKey.{NodeKey}
use Rattle.px_numbers.specs.Numbers.{Kept, IsKeyOf}
use Rattle.px_entries.specs.Entries.{IsEntry}
use Rattle.px_ends.specs.ByValue.{space_of}
use Rattle.px_ends.specs.Ends.{node_of}
use Rattle.px_ends.specs.Lacks.{needs}
use Rattle.px_ends.specs.Tasks.{Task}
use Rattle.px_search.specs.Estimating.{AreCounted}
use Rattle.px_search.specs.Searching.{order_of}
use Rattle.px_search.specs.declared.picker.Picker.{Picker}
use Rattle.px_search.specs.declared.picker.Picker.TheVariants.{InOrder, ByValue}
use Rattle.px_search.specs.declared.picker.Ranking.{Ranking}
use Rattle.px_search.specs.declared.picker.Reckoned.{Reckoned}
use Rattle.px_search.specs.declared.step.Origin.{Origin}
use Rattle.px_search.specs.Steps.{DescribesMove}

-- the agenda has the places that weren't picked, and of each found list it is known how much its node lacks and how long it is
pub record IsRanking (task : Task) (kept : Kept) (found : List (List Move)) (picked : List ℕ) (ranking : Ranking) : Type 0 where
  pub agenda : IsAgendaOf (space_of task) (order_of task) found picked ranking.agenda
  pub count : length ranking.reckoned.items ≡ length found
  pub lacking : (k : ℕ) (one : Reckoned) (moves : List Move) → slice_get ranking.reckoned.items k ≡ Some one
      → slice_get found k ≡ Some moves → one.needs ≡ needs task (node_of task moves)
  pub long : (k : ℕ) (one : Reckoned) (moves : List Move) → slice_get ranking.reckoned.items k ≡ Some one
      → slice_get found k ≡ Some moves → one.moves ≡ length moves
  pub estimates : AreCounted task kept ranking.estimates

-- what is picked next is the next place of the search that has these lists and picks
abbrev pub IsPickerOf : Task → Kept → List (List Move) → List ℕ → Picker → Type 0
IsPickerOf task kept found picked (InOrder next) = (task.problem.weight ≡ 0) × (picked ≡ down_from next)
IsPickerOf task kept found picked (ByValue ranking) = IsRanking task kept found picked ranking

-- nothing is picked and nothing is reckoned
pub record IsFirstRanking (task : Task) (ranking : Ranking) : Type 0 where
  pub agenda : ranking.agenda ≡ []
  pub reckoned : ranking.reckoned.items ≡ []
  pub estimates : (kept : Kept) → AreCounted task kept ranking.estimates

-- the picker of a search that has found nothing yet
abbrev pub IsFirstPicker : Task → Picker → Type 0
IsFirstPicker task (InOrder next) = (task.problem.weight ≡ 0) × (next ≡ 0)
IsFirstPicker task (ByValue ranking) = IsFirstRanking task ranking

-- the moves go on from a found list as the origin says, and lead to the node of the pair
pub record IsOnward (task : Task) (kept : Kept) (found : List (List Move)) (origin : Origin) (there : NodeKey) (moves : List Move)
    : Type 0 where
  pub parent : List Move
  pub parent_at : slice_get found origin.parent ≡ Some parent
  pub m : Move
  pub step : DescribesMove kept origin.last m
  pub moves_are : moves ≡ parent ++ m ∷ []
  pub stands : IsKeyOf kept there (node_of task moves)
  pub entries : All (IsEntry task.problem task.tables) (node_of task moves).stack

-- the places are those of found lists
abbrev pub AreWithin : List (List Move) → List ℕ → Type 0
AreWithin found picked = (k : ℕ) → Contains picked k → k < length found

-- one node more is put behind the others, with its value
pub record IsPut (weight : ℕ) (node : Reckoned) (old new : Ranking) : Type 0 where
  pub reckoned : new.reckoned.items ≡ old.reckoned.items ++ node ∷ []
  pub agenda : IsPermutation (rank_of (node.moves + weight * node.needs) (length old.reckoned.items) ∷ old.agenda) new.agenda
  pub estimates : new.estimates ≡ old.estimates
