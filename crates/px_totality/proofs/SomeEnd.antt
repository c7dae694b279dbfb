-- Each search has one of the four ends, with whatever weight.
use Rattle.std.specs.Prelude.{◌≡◌, ◌<◌, ◌≤◌, ◌⊎◌, ℕ, length, map}
use Rattle.std.proofs.Common.{refl, inl, inr, arith}
use Rattle.px_order.specs.Ends as order_ends
use Rattle.px_order.specs.Places.{order_of}
use Rattle.px_order.specs.Spaces.{IsLinear}
use Rattle.px_ends.proofs.MoveLaws.{move_cmp-total, move_cmp-same}
use Rattle.px_ends.specs.ByValue.{aim_of, order_by, space_of}
use Rattle.px_ends.specs.Ends.{node_of}
use Rattle.px_ends.specs.Tasks.{Task}
use Rattle.px_totality.specs.SearchEnds.{HasEnd, SearchesEnd}
use Rattle.px_totality.proofs.FiniteEntries.{finite-allowed}
use Rattle.px_totality.proofs.NextStep.{Finished, Stopped, stopped-or-finished}

module _ (task : Task) (weight : ℕ) where
  linear : IsLinear (order_by task weight)
  linear = record { total = move_cmp-total; identical = move_cmp-same }

  abbrev StopsSomewhere : Type 0
  StopsSomewhere = Stopped (space_of task) (order_by task weight) linear (aim_of task) (finite-allowed task)

  abbrev IsOverSomewhere : Type 0
  IsOverSomewhere = Finished (space_of task) (order_by task weight) linear (aim_of task) (finite-allowed task)

  abbrev IsUnlimited : Type 0
  IsUnlimited = order_ends.IsUnlimited (space_of task) (order_by task weight) (aim_of task)

  -- where no question meets the limit of shapes
  ends-unlimited : IsUnlimited → (StopsSomewhere ⊎ IsOverSomewhere) → HasEnd task weight
  ends-unlimited unlimited (inr over) = inr (inl (record {
    unlimited = unlimited;
    lists = over.lists;
    picked = over.picked;
    over = over.over;
    unsolved = over.unsolved;
    room = over.room;
  }))
  ends-unlimited unlimited (inl stops) = elim (order_of (length stops.earlier) task.nodes) [
    | inl room ↦ inl (stops.last, record { unlimited = unlimited; earlier = stops.earlier; stop = stops.stop; room = room })
    | inr full ↦ inr (inr (inl (
      map (node_of task) stops.earlier,
      length stops.last,
      record {
        earlier = stops.earlier;
        limit = record {
          unlimited = unlimited;
          last = stops.last;
          stop = stops.stop;
          full = omega (arith, full, stops.stop.room);
          moves_are = refl;
        };
        nodes_are = refl;
      },
    )))
  ]

  some-end : ¬ ¬ HasEnd task weight
  some-end never =
      let unlimited : IsUnlimited = λ moves question asked met. never (inr (inr (inr (
        node_of task moves,
        record { question = question; formula = met.0; shapes = met.1 },
        record { moves = moves; node_is = refl; asked = asked; met = met.2 },
      )))) in
      stopped-or-finished (space_of task) (order_by task weight) linear (aim_of task) (finite-allowed task)
      (λ found. never (ends-unlimited unlimited found))

pub searches_end : SearchesEnd
searches_end = some-end
