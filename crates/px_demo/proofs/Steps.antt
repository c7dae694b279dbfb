-- The numbers and the rooms of one errand more.
use Rattle.std.proofs.Common.{◌≡◌, ℕ, ◌+◌, suc, sym, ap, ap₂, ◌∙◌, arith}
use Rattle.px_demo.specs.Errands.{distance, next_number, number_after, room_after, target}

pub number-step : (seed i : ℕ) (number : ℕ) → number ≡ number_after seed i → next_number number ≡ number_after seed (i + 1)
number-step seed i number is =
    let e : i + 1 ≡ suc i = omega arith in
    ap next_number is ∙ sym (ap (number_after seed) e)

pub room-step : (rooms seed i : ℕ) (number here far : ℕ) → number ≡ number_after seed (i + 1) → here ≡ room_after rooms seed i
    → far ≡ distance number
    → target rooms here far ≡ room_after rooms seed (i + 1)
room-step rooms seed i number here far number_is here_is far_is =
    let e : i + 1 ≡ suc i = omega arith in
    ap₂ (target rooms) here_is (far_is ∙ ap distance (number_is ∙ ap (number_after seed) e)) ∙ sym (ap (room_after rooms seed) e)
