-- Searches worked by hand: from node 0 moves lead to nodes 1, 2 and 3, and from node 3 to node 4.
use Rattle.std.specs.Prelude.{◌≡◌, ℕ, List, [], ◌∷◌, Contains}
use Rattle.std.proofs.Common.{zero, suc}
use Rattle.std.specs.Ordering.{nat_cmp}
use Rattle.px_order.specs.Spaces.{Space, Order}
use Rattle.px_order.specs.Runs.{IsOver}
use Rattle.px_order.specs.Ends.{Aim, IsFound, IsExhausted, IsNodeLimit}

-- the nodes to which moves lead; a move is the node to which it leads
abbrev pub leads_to : ℕ → List ℕ
leads_to zero = 1 ∷ 2 ∷ 3 ∷ []
leads_to (suc zero) = []
leads_to (suc (suc zero)) = []
leads_to (suc (suc (suc zero))) = 4 ∷ []
leads_to (suc (suc (suc (suc n)))) = []

-- how much a node lacks
abbrev pub lacks_at : ℕ → ℕ
lacks_at zero = 2
lacks_at (suc zero) = 2
lacks_at (suc (suc zero)) = 1
lacks_at (suc (suc (suc zero))) = 1
lacks_at (suc (suc (suc (suc n)))) = 0

abbrev pub five_nodes : Space ℕ ℕ
five_nodes = record { start = 0; allows = λ node m. Contains (leads_to node) m; after = λ node m. m }

abbrev pub weighted : ℕ → Order ℕ ℕ
weighted weight = record { compare = nat_cmp; estimate = lacks_at; weight = weight }

-- to reach the node with room for so many, and nothing to ask
abbrev pub to_reach : ℕ → ℕ → Aim ℕ ℕ
to_reach node limit =
    record { solved = λ n. n ≡ node; limit = limit; asks = λ n q. ⊥; tries = λ n q. ⊥; meets = λ q. ⊥ }

abbrev pub first_four : List (List ℕ)
first_four = [] ∷ (1 ∷ []) ∷ (2 ∷ []) ∷ (3 ∷ []) ∷ []

abbrev pub all_five : List (List ℕ)
all_five = [] ∷ (1 ∷ []) ∷ (2 ∷ []) ∷ (3 ∷ []) ∷ (3 ∷ 4 ∷ []) ∷ []

-- With weight 2 the values of the five lists are 4, 5, 3, 3 and 2, so their places are picked in the order 0, 2, 3, 4, 1; with weight 0
-- they are picked in order. (The place that was picked last stands first.) Node 4 is found as the fifth where there is room for it, and
-- is the node limit where there is room for four. There is no node 5.
pub record OrderFacts : Type 0 where
  pub by_value : IsOver five_nodes (weighted 2) all_five (1 ∷ 4 ∷ 3 ∷ 2 ∷ 0 ∷ [])
  pub blindly : IsOver five_nodes (weighted 0) all_five (4 ∷ 3 ∷ 2 ∷ 1 ∷ 0 ∷ [])
  pub found : IsFound five_nodes (weighted 2) (to_reach 4 5) (3 ∷ 4 ∷ [])
  pub no_room : IsNodeLimit five_nodes (weighted 2) (to_reach 4 4) first_four 2
  pub exhausted : IsExhausted five_nodes (weighted 2) (to_reach 5 5)
