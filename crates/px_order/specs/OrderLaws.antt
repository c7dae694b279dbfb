-- What is true of a search in every order.
use Rattle.std.specs.Prelude.{◌≡◌, ◌<◌, ◌≤◌, ℕ, Some, List, [], ◌∷◌, ◌++◌, length, slice_get, Contains}
use Rattle.px_order.specs.Spaces.{Space, Order, IsLinear, IsBefore, CanMake, at, blind, IsBeginning, IsAll}
use Rattle.px_order.specs.Runs.{Reaches, RunsFor, Begins, IsOver}
use Rattle.px_order.specs.Ends.{Aim, IsStop, IsGoneThrough, IsTested, IsAsked, IsFound, IsExhausted, IsNodeLimit}
use Rattle.px_order.specs.Breadth.{down_from}
use Rattle.px_order.specs.BreadthEnds.{IsBreadthFound, IsBreadthExhausted, IsBreadthNodeLimit, IsBreadthAsked}

module _ {N M : Type 0} (space : Space N M) where
  -- so many picks and finds lead to one state
  abbrev pub RunsAreOne : Type 0
  RunsAreOne = (order : Order N M) → IsLinear order → (n : ℕ) (found lists : List (List M)) (picked places : List ℕ)
      → RunsFor space order n found picked → RunsFor space order n lists places → (found ≡ lists) × (picked ≡ places)

  -- The moves of each found list can be made, and they are no more than its place. No two found lists reach one node.
  pub record NodesStandOnce : Type 0 where
    pub once : (order : Order N M) (found : List (List M)) → Begins space order found → (i j : ℕ) (p q : List M)
        → slice_get found i ≡ Some p → slice_get found j ≡ Some q → at space p ≡ at space q → i ≡ j
    pub made : (order : Order N M) (found : List (List M)) → Begins space order found → (moves : List M) → Contains found moves
        → CanMake space space.start moves
    pub few : (order : Order N M) (found : List (List M)) → Begins space order found → (k : ℕ) (moves : List M)
        → slice_get found k ≡ Some moves → length moves ≤ k

  -- where no place is left, each node that moves reach is found
  abbrev pub AllIsFound : Type 0
  AllIsFound = (order : Order N M) (found : List (List M)) (picked : List ℕ) → IsOver space order found picked → (moves : List M)
      → CanMake space space.start moves → Reaches space order found (at space moves)

  -- Where the weight is 0, places are picked as they were found, and each node is found by the least list of moves to it, in order.
  pub record BlindIsBreadth : Type 0 where
    pub in_order : (order : Order N M) → IsLinear order → (n : ℕ) (found : List (List M)) (picked : List ℕ)
        → RunsFor space (blind order) n found picked → (count : ℕ) × (picked ≡ down_from count)
    pub beginning : (order : Order N M) → IsLinear order → (found : List (List M)) → Begins space (blind order) found
        → IsBeginning space (IsBefore order) space.start found
    pub whole : (order : Order N M) → IsLinear order → (found : List (List M)) (picked : List ℕ) → IsOver space (blind order) found picked
        → IsAll space (IsBefore order) space.start found

module _ {N M Q : Type 0} (space : Space N M) (aim : Aim N Q) where
  -- A search has one stop, and of the three ends at most one comes, in one way. Each list of moves on the way to the stop was gone through.
  pub record OneStop : Type 0 where
    pub stop : (order : Order N M) → IsLinear order → (earlier others : List (List M)) (last next : List M)
        → IsStop space order aim earlier last → IsStop space order aim others next → (earlier ≡ others) × (last ≡ next)
    pub gone_through : (order : Order N M) (earlier : List (List M)) (last : List M) → IsStop space order aim earlier last → (p : List M)
        (m : M) (rest : List M)
        → last ≡ p ++ m ∷ rest → IsGoneThrough space order aim p
    pub found : (order : Order N M) → IsLinear order → (moves others : List M) → IsFound space order aim moves
        → IsFound space order aim others → moves ≡ others
    pub node_limit : (order : Order N M) → IsLinear order → (earlier others : List (List M)) (number count : ℕ)
        → IsNodeLimit space order aim earlier number → IsNodeLimit space order aim others count → (earlier ≡ others) × (number ≡ count)
    pub found_or_node_limit : (order : Order N M) → IsLinear order → (moves : List M) (earlier : List (List M)) (number : ℕ)
        → IsFound space order aim moves → ¬ IsNodeLimit space order aim earlier number

  -- What is asked is told by the run that comes to the end: where there is a stop, what was gone through stands at a place that was picked,
  -- and what was tested is among the found lists, with room for it; and where no place is left, both are among the found lists.
  pub record AskedByRun : Type 0 where
    pub gone_through : (order : Order N M) → IsLinear order → (earlier : List (List M)) (last : List M)
        → (stop : IsStop space order aim earlier last) → (moves : List M) → IsGoneThrough space order aim moves
        → (place : ℕ) × (slice_get (earlier ++ last ∷ []) place ≡ Some moves) × Contains stop.begins.0 place
    pub tested : (order : Order N M) → IsLinear order → (earlier : List (List M)) (last : List M) → IsStop space order aim earlier last
        → (moves : List M) → IsTested space order aim moves
        → (place : ℕ) × (slice_get (earlier ++ last ∷ []) place ≡ Some moves) × (place < aim.limit)
    pub over_gone_through : (order : Order N M) → IsLinear order → (found : List (List M)) (picked : List ℕ)
        → IsOver space order found picked → (moves : List M) → IsGoneThrough space order aim moves → Contains found moves
    pub over_tested : (order : Order N M) → IsLinear order → (found : List (List M)) (picked : List ℕ) → IsOver space order found picked
        → (moves : List M) → IsTested space order aim moves → Contains found moves

  -- Where a search is exhausted in one order, none of the other ends comes in any order: no stop, and no question that meets its limit.
  pub record ExhaustedInAll : Type 0 where
    pub stop : (order other : Order N M) → IsExhausted space order aim → (earlier : List (List M)) (last : List M)
        → ¬ IsStop space other aim earlier last
    pub found : (order other : Order N M) → IsExhausted space order aim → (moves : List M) → ¬ IsFound space other aim moves
    pub node_limit : (order other : Order N M) → IsExhausted space order aim → (earlier : List (List M)) (number : ℕ)
        → ¬ IsNodeLimit space other aim earlier number
    pub limited : (order other : Order N M) → IsExhausted space order aim → (moves : List M) (q : Q) → IsAsked space other aim moves q
        → ¬ aim.meets q

  -- Where the weight is 0 the search ends as one in breadth does, whose ends are given by the order of lists of moves alone; and what it
  -- asks is asked there.
  pub record BlindEnds : Type 0 where
    pub found : (order : Order N M) → IsLinear order → (moves : List M) → IsFound space (blind order) aim moves
        → IsBreadthFound space (IsBefore order) aim moves
    pub exhausted : (order : Order N M) → IsLinear order → IsExhausted space (blind order) aim
        → IsBreadthExhausted space (IsBefore order) aim
    pub node_limit : (order : Order N M) → IsLinear order → (earlier : List (List M)) (number : ℕ)
        → IsNodeLimit space (blind order) aim earlier number → IsBreadthNodeLimit space (IsBefore order) aim earlier number
    pub asked : (order : Order N M) → IsLinear order → (moves : List M) (q : Q) → IsAsked space (blind order) aim moves q
        → IsBreadthAsked space (IsBefore order) aim moves q
