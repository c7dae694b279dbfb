-- What a search goes over, and the order in which it goes: nodes, moves, lists of moves, and their values.
use Rattle.std.specs.Prelude.{◌≡◌, ◌+◌, ◌*◌, ℕ, List, length}
use Rattle.std.specs.Ordering.{nat_cmp, on, then_cmp}
use Rattle.std.specs.Cmp.{IsTotalOrder}
use Rattle.std.specs.Cmp.Lexicographic.{slice_cmp}
use Rattle.std.specs.declared.cmp.Ordering.{Ordering}
use Rattle.std.specs.declared.cmp.Ordering.TheVariants.{Less, Equal}
use Rattle.px_order.specs.Moves as moves_made

-- nodes, and the moves that lead from one to another
pub record Space (N M : Type 0) : Type 1 where
  pub start : N
  pub allows : N → M → Type 0
  pub after : N → M → N

-- In which order the moves of a node are tried, how much a node is estimated to lack, and how heavily that weighs beside the number of
-- moves that were made (the weight after Pohl 1970).
pub record Order (N M : Type 0) : Type 0 where
  pub compare : M → M → Ordering
  pub estimate : N → ℕ
  pub weight : ℕ

-- the same order of moves, blind to what nodes lack
abbrev pub blind : {N M : Type 0} → Order N M → Order N M
blind order = record { compare = order.compare; estimate = order.estimate; weight = 0 }

abbrev pub IsLower : {N M : Type 0} → Order N M → M → M → Type 0
IsLower order m n = order.compare m n ≡ Less

-- the comparison of moves is a total order, in which no two moves are equal
pub record IsLinear {N M : Type 0} (order : Order N M) : Type 0 where
  pub total : IsTotalOrder order.compare
  pub identical : (m n : M) → order.compare m n ≡ Equal → m ≡ n

module _ {N M : Type 0} (space : Space N M) where
  -- each move is allowed where it is made
  abbrev pub CanMake : N → List M → Type 0
  CanMake node moves = moves_made.CanMake space.allows space.after node moves

  abbrev pub reached : N → List M → N
  reached node moves = moves_made.reached space.allows space.after node moves

  -- the node that the moves reach from the start
  abbrev pub at : List M → N
  at moves = reached space.start moves

  -- The value of a list of moves: how many there are, and the estimate of the node that they reach as many times as the weight says
  -- (the evaluation function of Nilsson 1971). A lesser value is better.
  abbrev pub value : Order N M → List M → ℕ
  value order moves = length moves + order.weight * order.estimate (at moves)

  -- ---- lists of moves in the order of breadth

  -- the moves can be made, and no list of moves before them leads to the same node
  abbrev pub IsLeast : (List M → List M → Type 0) → N → List M → Type 0
  IsLeast before start moves = moves_made.IsLeast space.allows space.after before start moves

  -- the list of all reachable nodes begins with these, each given by its least list of moves
  abbrev pub IsBeginning : (List M → List M → Type 0) → N → List (List M) → Type 0
  IsBeginning before start lists = moves_made.IsBeginning space.allows space.after before start lists

  -- these are all reachable nodes
  abbrev pub IsAll : (List M → List M → Type 0) → N → List (List M) → Type 0
  IsAll before start lists = moves_made.IsAll space.allows space.after before start lists

-- fewer moves are before, and of as many those whose first different move is lower
abbrev pub IsBefore : {N M : Type 0} → Order N M → List M → List M → Type 0
IsBefore order ms ns = then_cmp (on length nat_cmp) (slice_cmp order.compare) ms ns ≡ Less
