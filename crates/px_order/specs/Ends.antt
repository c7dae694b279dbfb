-- How a search ends, by its found lists and picks.
use Rattle.std.specs.Prelude.{◌≡◌, ◌⊎◌, ◌<◌, ◌≤◌, ℕ, Some, List, [], ◌∷◌, ◌++◌, length, slice_get, Contains}
use Rattle.px_order.specs.Spaces.{Space, Order, at}
use Rattle.px_order.specs.Runs.{Comes, Begins, IsOver}

-- What a search is to reach, and what it asks. `asks` has the questions about a node's moves, `tries` those whether a node is solved. There
-- is room for `limit` nodes, and a question may meet a limit of its own.
pub record Aim (N Q : Type 0) : Type 1 where
  pub solved : N → Type 0
  pub limit : ℕ
  pub asks : N → Q → Type 0
  pub tries : N → Q → Type 0
  pub meets : Q → Type 0

abbrev pub NoneSolvedAmong : {N M Q : Type 0} → Space N M → Aim N Q → List (List M) → Type 0
NoneSolvedAmong {M = M} space aim lists = (moves : List M) → Contains lists moves → ¬ aim.solved (at space moves)

module _ {N M Q : Type 0} (space : Space N M) (order : Order N M) (aim : Aim N Q) where
  abbrev pub NoneSolved : List (List M) → Type 0
  NoneSolved lists = NoneSolvedAmong space aim lists

  -- the first place whose node is solved, or for which there is no room, and the lists before it
  pub record IsStop (earlier : List (List M)) (last : List M) : Type 0 where
    pub begins : Begins space order (earlier ++ last ∷ [])
    pub unsolved : NoneSolved earlier
    pub room : length earlier ≤ aim.limit
    pub stops : aim.solved (at space last) ⊎ (length earlier ≡ aim.limit)

  -- ---- which questions are asked

  -- the place of the moves is picked while there is no stop among the found lists
  pub record IsGoneThrough (moves : List M) : Type 0 where
    pub found : List (List M)
    pub place : ℕ
    pub picked : List ℕ
    pub comes : Comes space order found (place ∷ picked)
    pub stands : slice_get found place ≡ Some moves
    pub unsolved : NoneSolved found
    pub room : length found ≤ aim.limit

  -- the list is found, with room for it, while none before it is solved
  pub record IsTested (moves : List M) : Type 0 where
    pub earlier : List (List M)
    pub begins : Begins space order (earlier ++ moves ∷ [])
    pub unsolved : NoneSolved earlier
    pub room : length earlier < aim.limit

  -- the question is asked at the node that the moves reach
  abbrev pub IsAsked : List M → Q → Type 0
  IsAsked moves q = (IsGoneThrough moves × aim.asks (at space moves) q) ⊎ (IsTested moves × aim.tries (at space moves) q)

  -- no question that is asked meets its limit
  abbrev pub IsUnlimited : Type 0
  IsUnlimited = (moves : List M) (q : Q) → IsAsked moves q → ¬ aim.meets q

  -- ---- the ends

  -- the moves lead to the first solved node, and there is room for it
  pub record IsFound (moves : List M) : Type 0 where
    pub unlimited : IsUnlimited
    pub earlier : List (List M)
    pub stop : IsStop earlier moves
    pub room : length earlier < aim.limit

  -- no place is left, no node is solved, and there is room for all
  pub record IsExhausted : Type 0 where
    pub unlimited : IsUnlimited
    pub lists : List (List M)
    pub picked : List ℕ
    pub over : IsOver space order lists picked
    pub unsolved : NoneSolved lists
    pub room : length lists ≤ aim.limit

  -- these are the first lists, as many as there is room for, none of them solved, and this number of moves leads to a further node
  pub record IsNodeLimit (earlier : List (List M)) (moves : ℕ) : Type 0 where
    pub unlimited : IsUnlimited
    pub last : List M
    pub stop : IsStop earlier last
    pub full : length earlier ≡ aim.limit
    pub moves_are : moves ≡ length last
