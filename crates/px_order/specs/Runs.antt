-- Best-first search by single steps (Nilsson 1971): which lists of moves are found, and which places are picked to go on from.
use Rattle.std.specs.Prelude.{◌≡◌, ◌⊎◌, ◌<◌, ◌≤◌, ℕ, Some, List, [], ◌∷◌, ◌++◌, slice_get, Contains}
use Rattle.std.proofs.Common.{zero, suc}
use Rattle.px_order.specs.Spaces.{Space, Order, IsLower, at, value}

-- The lists that are found, each with its node, are what is often called open and closed: a place is closed once it is picked.
module _ {N M : Type 0} (space : Space N M) (order : Order N M) where
  -- one of the lists reaches the node
  abbrev pub Reaches : List (List M) → N → Type 0
  Reaches found node = (moves : List M) × Contains found moves × (at space moves ≡ node)

  -- each move from the node that the moves reach leads to a node that one of the lists reaches
  abbrev pub IsGoneOver : List (List M) → List M → Type 0
  IsGoneOver found moves = (m : M) → space.allows (at space moves) m → Reaches found (space.after (at space moves) m)

  -- The places that were picked stand in `picked`, the last one first. The node of the last one was gone over.
  abbrev pub IsDone : List (List M) → List ℕ → Type 0
  IsDone found [] = Unit {0}
  IsDone found (place ∷ earlier) = (moves : List M) → slice_get found place ≡ Some moves → IsGoneOver found moves

  -- the place wasn't picked before, and has the least value among all these, and of those of this value it is the first
  pub record IsNext (found : List (List M)) (picked : List ℕ) (place : ℕ) : Type 0 where
    pub moves : List M
    pub stands : slice_get found place ≡ Some moves
    pub fresh : ¬ Contains picked place
    pub least : (k : ℕ) (other : List M) → slice_get found k ≡ Some other → (¬ Contains picked k)
        → (value space order moves < value space order other) ⊎ ((value space order moves ≡ value space order other) × (place ≤ k))

  -- the move is the first one from the node to a node that none of the lists reaches
  pub record IsNew (found : List (List M)) (moves : List M) (m : M) : Type 0 where
    pub allowed : space.allows (at space moves) m
    pub new : ¬ Reaches found (space.after (at space moves) m)
    pub first : (n : M) → space.allows (at space moves) n → IsLower order n m → Reaches found (space.after (at space moves) n)

  -- a place is picked
  pub record Picks (found : List (List M)) (picked : List ℕ) (found' : List (List M)) (picked' : List ℕ) : Type 0 where
    pub place : ℕ
    pub done : IsDone found picked
    pub next : IsNext found picked place
    pub found_is : found' ≡ found
    pub picked_is : picked' ≡ place ∷ picked

  -- the list that goes on from the place that was picked last by its first new move is put behind
  pub record Finds (found : List (List M)) (picked : List ℕ) (found' : List (List M)) (picked' : List ℕ) : Type 0 where
    pub place : ℕ
    pub earlier : List ℕ
    pub last : picked ≡ place ∷ earlier
    pub moves : List M
    pub stands : slice_get found place ≡ Some moves
    pub m : M
    pub is_new : IsNew found moves m
    pub found_is : found' ≡ found ++ (moves ++ m ∷ []) ∷ []
    pub picked_is : picked' ≡ picked

  -- so many picks and finds lead from the empty list alone to these lists and picks
  abbrev pub RunsFor : ℕ → List (List M) → List ℕ → Type 0
  RunsFor zero found picked = (found ≡ [] ∷ []) × (picked ≡ [])
  RunsFor (suc n) found picked = (f : List (List M)) × (p : List ℕ) × RunsFor n f p × (Picks f p found picked ⊎ Finds f p found picked)

  -- the search comes to these lists and picks
  abbrev pub Comes : List (List M) → List ℕ → Type 0
  Comes found picked = (n : ℕ) × RunsFor n found picked

  -- the found lists begin with these
  abbrev pub Begins : List (List M) → Type 0
  Begins found = (picked : List ℕ) × Comes found picked

  -- no place is left
  pub record IsOver (found : List (List M)) (picked : List ℕ) : Type 0 where
    pub comes : Comes found picked
    pub done : IsDone found picked
    pub all : (k : ℕ) (moves : List M) → slice_get found k ≡ Some moves → Contains picked k
