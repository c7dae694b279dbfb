-- How a search ends that goes in breadth: by the order of lists of moves alone, without steps.
use Rattle.std.specs.Prelude.{◌≡◌, ◌⊎◌, ◌<◌, ◌≤◌, ℕ, List, [], ◌∷◌, ◌++◌, length}
use Rattle.px_order.specs.Spaces.{Space, CanMake, at, IsLeast, IsBeginning, IsAll}
use Rattle.px_order.specs.Ends.{Aim, NoneSolvedAmong}

-- `before` is the order of lists of moves.
module _ {N M Q : Type 0} (space : Space N M) (before : List M → List M → Type 0) (aim : Aim N Q) where
  -- the first node that is solved, or that comes after as many as there is room for, and the nodes before it
  pub record IsBreadthStop (earlier : List (List M)) (last : List M) : Type 0 where
    pub beginning : IsBeginning space before space.start (earlier ++ last ∷ [])
    pub unsolved : NoneSolvedAmong space aim earlier
    pub room : length earlier ≤ aim.limit
    pub stops : aim.solved (at space last) ⊎ (length earlier ≡ aim.limit)

  -- the last of the second moves is made from a node that doesn't stand before the one that the first moves reach
  abbrev pub IsMadeFrom : List M → List M → Type 0
  IsMadeFrom moves last = (parent : List M) × (m : M) × (last ≡ parent ++ m ∷ []) × (¬ before parent moves)

  -- the search goes through the node: it stands no later than the one from which the stop is reached, if there is a stop
  pub record IsBreadthGone (moves : List M) : Type 0 where
    pub least : IsLeast space before space.start moves
    pub early : (earlier : List (List M)) (last : List M) → IsBreadthStop earlier last → IsMadeFrom moves last

  -- the node stands before the stop, or is the stop and there is room for it
  pub record IsBreadthTested (moves : List M) : Type 0 where
    pub least : IsLeast space before space.start moves
    pub early : (earlier : List (List M)) (last : List M) → IsBreadthStop earlier last
        → before moves last ⊎ ((moves ≡ last) × (length earlier < aim.limit))

  -- the question is asked at the node that the moves reach
  abbrev pub IsBreadthAsked : List M → Q → Type 0
  IsBreadthAsked moves q = (IsBreadthGone moves × aim.asks (at space moves) q) ⊎ (IsBreadthTested moves × aim.tries (at space moves) q)

  -- no question that is asked meets its limit
  abbrev pub IsBreadthUnlimited : Type 0
  IsBreadthUnlimited = (moves : List M) (q : Q) → IsBreadthAsked moves q → ¬ aim.meets q

  -- the moves lead to the first solved node, and there is room for it
  pub record IsBreadthFound (moves : List M) : Type 0 where
    pub unlimited : IsBreadthUnlimited
    pub earlier : List (List M)
    pub stop : IsBreadthStop earlier moves
    pub room : length earlier < aim.limit

  -- no list of moves reaches a solved node, and there is room for all nodes that moves reach
  pub record IsBreadthExhausted : Type 0 where
    pub unlimited : IsBreadthUnlimited
    pub lists : List (List M)
    pub whole : IsAll space before space.start lists
    pub unsolved : (moves : List M) → CanMake space space.start moves → ¬ aim.solved (at space moves)
    pub room : length lists ≤ aim.limit

  -- these are the first lists, as many as there is room for, none of them solved, and this number of moves leads to a further node
  pub record IsBreadthNodeLimit (earlier : List (List M)) (moves : ℕ) : Type 0 where
    pub unlimited : IsBreadthUnlimited
    pub last : List M
    pub stop : IsBreadthStop earlier last
    pub full : length earlier ≡ aim.limit
    pub moves_are : moves ≡ length last
