-- What a counter picks without a weight, and what an agenda picks, is the next place.
use Rattle.std.proofs.Common.{◌≡◌, ℕ, ◌<◌, ◌≤◌, List, [], ◌∷◌, length, sym, subst, arith, Some, slice_get, Contains}
use Rattle.std.specs.Prelude.{All, IsPermutation}
use Rattle.px_table.specs.declared.entry.Move.{Move}
use Rattle.px_order.proofs.LawProofs.{agenda_goes_on, blind_needs_no_agenda}
use Rattle.px_order.specs.Agendas.{Rank, rank_of, rank_place, rank_value}
use Rattle.px_order.specs.Breadth.{down_from, down_from-has}
use Rattle.px_order.specs.OpenPlaces.{IsAgendaOf}
use Rattle.px_order.specs.Places.{place-within-list}
use Rattle.px_order.specs.Runs.{Comes, IsNext}
use Rattle.px_order.specs.Spaces.{IsLinear}
use Rattle.px_ends.proofs.MoveLaws.{move_cmp-total, move_cmp-same}
use Rattle.px_ends.specs.ByValue.{order_by, space_of}
use Rattle.px_ends.specs.Tasks.{Task}
use Rattle.px_search.specs.Searching.{order_of}

module _ (task : Task) where
  linear_blind : IsLinear (order_by task 0)
  linear_blind = record { total = move_cmp-total; identical = move_cmp-same }

  pub counter_next : (found : List (List Move)) (next : ℕ) → task.problem.weight ≡ 0
      → Comes (space_of task) (order_of task) found (down_from next) → next < length found
      → IsNext (space_of task) (order_of task) found (down_from next) next
  counter_next found next none comes below =
      subst (λ (w : ℕ). IsNext (space_of task) (order_by task w) found (down_from next) next) (sym none)
      (blind_needs_no_agenda (space_of task) (order_by task 0) linear_blind found next
      (subst (λ (w : ℕ). Comes (space_of task) (order_by task w) found (down_from next)) none comes) below)

  pub counter_over : (found : List (List Move)) (next : ℕ) → length found ≤ next → (k : ℕ) (moves : List Move)
      → slice_get found k ≡ Some moves → Contains (down_from next) k
  counter_over found next all k moves at = down_from-has next k (omega (arith, all, place-within-list found k moves at))

  pub agenda_next : (found : List (List Move)) (picked : List ℕ) (old new : List Rank) (worth place : ℕ)
      → IsAgendaOf (space_of task) (order_of task) found picked old → IsPermutation old (rank_of worth place ∷ new)
      → All (λ other. worth ≤ rank_value other) new → All (λ other. worth ≡ rank_value other → place ≤ rank_place other) new
      → IsNext (space_of task) (order_of task) found picked place × IsAgendaOf (space_of task) (order_of task) found (place ∷ picked) new
  agenda_next found picked old new worth place agenda taken least tie =
      (agenda_goes_on (space_of task)).picks (order_of task) found picked old new worth place agenda taken least tie

  pub agenda_over : (found : List (List Move)) (picked : List ℕ) (ranks : List Rank)
      → IsAgendaOf (space_of task) (order_of task) found picked ranks → ranks ≡ [] → (k : ℕ) (moves : List Move)
      → slice_get found k ≡ Some moves → Contains picked k
  agenda_over found picked ranks agenda none =
      (agenda_goes_on (space_of task)).none_left (order_of task) found picked
      (subst (λ (l : List Rank). IsAgendaOf (space_of task) (order_of task) found picked l) none agenda)
