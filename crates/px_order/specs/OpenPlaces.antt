-- The agenda of a search: its ranks are those of the places that weren't picked. What is picked from it is next.
use Rattle.std.specs.Prelude.{◌≡◌, ◌==◌, ◌<◌, ◌≤◌, ℕ, Some, List, [], ◌∷◌, ◌++◌, length, slice_get, All, Contains, IsPermutation}
use Rattle.std.specs.List.{count_by}
use Rattle.px_order.specs.Agendas.{Rank, rank_of, rank_value, rank_place}
use Rattle.px_order.specs.Runs.{Comes, IsNext}
use Rattle.px_order.specs.Spaces.{Space, Order, IsLinear, blind, value}
use Rattle.px_order.specs.Breadth.{down_from}

module _ {N M : Type 0} (space : Space N M) where
  -- each place that wasn't picked stands in the agenda, once and with the value of its list, and nothing else does
  pub record IsAgendaOf (order : Order N M) (found : List (List M)) (picked : List ℕ) (ranks : List Rank) : Type 0 where
    pub has : (k : ℕ) (moves : List M) → slice_get found k ≡ Some moves → (¬ Contains picked k)
        → Contains ranks (rank_of (value space order moves) k)
    pub only : (worth k : ℕ) → Contains ranks (rank_of worth k)
        → (moves : List M) × (slice_get found k ≡ Some moves) × (worth ≡ value space order moves) × (¬ Contains picked k)
    pub once : (k : ℕ) → count_by (λ rank. rank_place rank == k) ranks ≤ 1

  -- An agenda without ranks has all places picked. What is taken from the agenda as its least rank is the next place, and the agenda is
  -- that of the places that are left; and where a list is found, its rank is added.
  pub record AgendaGoesOn : Type 0 where
    pub first : (order : Order N M) (ranks : List Rank) → IsPermutation (rank_of (value space order []) 0 ∷ []) ranks
        → IsAgendaOf order ([] ∷ []) [] ranks
    pub picks : (order : Order N M) (found : List (List M)) (picked : List ℕ) (old new : List Rank) (worth place : ℕ)
        → IsAgendaOf order found picked old → IsPermutation old (rank_of worth place ∷ new)
        → All (λ other. worth ≤ rank_value other) new → All (λ other. worth ≡ rank_value other → place ≤ rank_place other) new
        → IsNext space order found picked place × IsAgendaOf order found (place ∷ picked) new
    pub finds : (order : Order N M) (found : List (List M)) (picked : List ℕ) (old new : List Rank) (moves : List M)
        → ((k : ℕ) → Contains picked k → k < length found) → IsAgendaOf order found picked old
        → IsPermutation (rank_of (value space order moves) (length found) ∷ old) new
        → IsAgendaOf order (found ++ moves ∷ []) picked new
    pub none_left : (order : Order N M) (found : List (List M)) (picked : List ℕ) → IsAgendaOf order found picked []
        → (k : ℕ) (moves : List M) → slice_get found k ≡ Some moves → Contains picked k

  -- at weight 0 the next place is the first that wasn't picked, so a counter serves in place of an agenda
  abbrev pub BlindNeedsNoAgenda : Type 0
  BlindNeedsNoAgenda = (order : Order N M) → IsLinear order → (found : List (List M)) (count : ℕ)
      → Comes space (blind order) found (down_from count) → count < length found → IsNext space (blind order) found (down_from count) count
