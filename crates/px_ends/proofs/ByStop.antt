-- Which questions are asked, by the stop.
use Rattle.std.proofs.Common.{◌≡◌, ◌↔◌, ◌⊎◌, List, [], ◌∷◌, ◌++◌, length, ◌<◌, subst}
use Rattle.px_table.specs.declared.entry.Move.{Move}
use Rattle.px_order.specs.Beginnings.{prefix-least}
use Rattle.px_ends.specs.ByValue.{space_of}
use Rattle.px_ends.specs.Order.{IsBefore}
use Rattle.px_ends.specs.Tasks.{Task}
use Rattle.px_ends.specs.Ends.{IsStop, IsGoneThrough, IsTested, IsMadeFrom, IsLeastList, node_of}
use Rattle.px_ends.proofs.MoveLaws.{order}
use Rattle.px_ends.specs.Determined.{AskedByStop}
use Rattle.px_ends.proofs.Exclusion.{same_earlier, same_stop}

module _ (task : Task) where
  pub gone : (earlier : List (List Move)) (last moves : List Move) → IsStop task earlier last → IsGoneThrough task moves
      ↔ (IsLeastList task moves × IsMadeFrom moves last)
  gone earlier last moves stop = (
    λ h. (h.least, h.early earlier last stop),
    λ h. record {
      least = h.0;
      early = λ e l s. subst (λ (x : List Move). IsMadeFrom moves x) (same_stop task earlier e last l stop s) h.1;
    },
  )

  pub parent_least : (parent : List Move) (m : Move) → IsLeastList task (parent ++ m ∷ []) → IsLeastList task parent
  parent_least parent m least = prefix-least (space_of task) IsBefore order parent m least

  tested : (earlier : List (List Move)) (last moves : List Move) → IsStop task earlier last
      → IsTested task moves ↔ (IsLeastList task moves × ((node_of task moves).stack ≡ [])
      × (IsBefore moves last ⊎ ((moves ≡ last) × (length earlier < task.nodes))))
  tested earlier last moves stop = (
    λ h. (h.least, h.empty, h.early earlier last stop),
    λ h. record {
      least = h.0;
      empty = h.1;
      early = λ e l s.
          subst (λ (x : List Move). IsBefore moves x ⊎ ((moves ≡ x) × (length e < task.nodes)))
          (same_stop task earlier e last l stop s)
          (subst (λ (x : List (List Move)). IsBefore moves last ⊎ ((moves ≡ last) × (length x < task.nodes)))
          (same_earlier task earlier e last l stop s) h.2);
    },
  )

pub asked_by_stop : AskedByStop
asked_by_stop = record {
  one = λ task earlier others last next stop other.
      (same_earlier task earlier others last next stop other, same_stop task earlier others last next stop other);
  gone_through = gone;
  parent = parent_least;
  tested = tested;
  no_stop = λ task moves never. (
    (λ h. h.least, λ h. record { least = h; early = λ e l s. absurd (never e l s) }),
    (λ h. (h.least, h.empty), λ h. record { least = h.0; empty = h.1; early = λ e l s. absurd (never e l s) }),
  );
}
