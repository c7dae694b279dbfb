-- Following the origins of a node back to the first one.
use Rattle.std.proofs.Common.{◌≡◌, ◌++◌, ◌≤◌, ℕ, zero, suc, List, [], ◌∷◌, length, reverse, sym, ap, ◌∙◌, arith, Some, slice_get, append_assoc}
use Rattle.std.proofs.lemmas.List.{append-nil, reverse-append}
use Rattle.px_table.specs.declared.entry.Move.{Move}
use Rattle.px_search.specs.declared.step.Origin.{Origin}
use Rattle.px_numbers.specs.Numbers.{Kept}
use Rattle.px_numbers.specs.NumberLaws.{one_at, item_in}
use Rattle.px_search.specs.Steps.{Trace, DescribesMove}

list_at : (kept : Kept) (origins : List Origin) (found : List (List Move)) (place : ℕ) → Trace kept origins found → place ≤ length origins
    → (prefix : List Move) × (slice_get found place ≡ Some prefix)
list_at kept origins found zero trace within = ([], trace.first)
list_at kept origins found (suc k) trace within =
    let origin = item_in origins k (omega (arith, within)) in
    let step = trace.later k origin.0 origin.1 in
    (step.0 ++ step.1 ∷ [], step.4)

pub trace_start : (kept : Kept) (origins : List Origin) (found : List (List Move)) (place : ℕ) (moves : List Move)
    → Trace kept origins found → place ≤ length origins → moves ≡ []
    → (prefix : List Move) × (slice_get found place ≡ Some prefix) × (slice_get found place ≡ Some (prefix ++ reverse moves))
trace_start kept origins found place moves trace within none =
    let here = list_at kept origins found place trace within in
    (here.0, here.1, here.1 ∙ ap Some (sym (append-nil here.0)) ∙ ap (λ (l : List Move). Some (here.0 ++ reverse l)) (sym none))

pub trace_step : (kept : Kept) (origins : List Origin) (found : List (List Move)) (place k : ℕ) (origin : Origin) (last : Move)
    (moves after : List Move) → Trace kept origins found → slice_get origins k ≡ Some origin
    → ((m : Move) → DescribesMove kept origin.last m → last ≡ m) → after ≡ moves ++ last ∷ []
    → ((prefix : List Move) × (slice_get found (suc k) ≡ Some prefix) × (slice_get found place ≡ Some (prefix ++ reverse moves)))
    → (prefix : List Move) × (slice_get found origin.parent ≡ Some prefix) × (slice_get found place ≡ Some (prefix ++ reverse after))
trace_step kept origins found place k origin last moves after trace at is put (prefix, here, whole) =
    let step = trace.later k origin at in
    let last_is : last ≡ step.1 = is step.1 step.3 in
    let prefix_is : prefix ≡ step.0 ++ last ∷ [] =
    one_at found (suc k) prefix (step.0 ++ step.1 ∷ []) here step.4 ∙ ap (λ (m : Move). step.0 ++ m ∷ []) (sym last_is) in
    let turned : reverse after ≡ last ∷ reverse moves = ap reverse put ∙ reverse-append moves (last ∷ []) in (
      step.0,
      step.2,
      whole ∙ ap (λ (l : List Move). Some (l ++ reverse moves)) prefix_is ∙ ap Some (append_assoc step.0 (last ∷ []) (reverse moves))
          ∙ ap (λ (l : List Move). Some (step.0 ++ l)) (sym turned),
    )

-- the step of each origin is a move
pub step_of_origin : (kept : Kept) (origins : List Origin) (found : List (List Move)) (k : ℕ) (origin : Origin) → Trace kept origins found
    → slice_get origins k ≡ Some origin → (m : Move) × DescribesMove kept origin.last m
step_of_origin kept origins found k origin trace at = let step = trace.later k origin at in (step.1, step.3)
