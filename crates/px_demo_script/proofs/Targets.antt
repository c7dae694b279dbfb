-- Each target is a room.
use Rattle.std.proofs.Common.{ℕ, ◌+◌, ◌-◌, ◌≤◌, ◌<◌, zero, suc, ltb-true, leb-true, arith}
use Rattle.std.specs.Prelude.{nat_le, nat_lt}
use Rattle.std.proofs.lemmas.Bool.{cond_both}
use Rattle.std.proofs.lemmas.Bool.Decides.{nat_tests}
use Rattle.px_demo.specs.Errands.{distance, number_after, room_after, target, turned_back}

abbrev pub IsRoom : ℕ → ℕ → Type 0
IsRoom rooms n = (1 ≤ n) × (n ≤ rooms)

back-is-room : (rooms here far : ℕ) → 3 ≤ rooms → IsRoom rooms here → IsRoom rooms (turned_back rooms here far)
back-is-room rooms here far some is = let least = is.0 in let most = is.1 in
    cond_both (nat_lt far here) _ _ (IsRoom rooms)
    (λ less. let low = ltb-true far here less in (omega (arith, low), omega (arith, most)))
    (λ not_less. cond_both (nat_le (here + 1) rooms) _ _ (IsRoom rooms)
    (λ on. let below = leb-true (here + 1) rooms on in (omega (arith, least), omega (arith, below)))
    (λ off. let last : rooms < here + 1 = grind (arith, nat_tests, off) in (omega (arith, last, some), omega (arith, most))))

target-is-room : (rooms here far : ℕ) → 3 ≤ rooms → IsRoom rooms here → IsRoom rooms (target rooms here far)
target-is-room rooms here far some is = let least = is.0 in
    cond_both (nat_le (here + far) rooms) _ _ (IsRoom rooms)
    (λ on. let below = leb-true (here + far) rooms on in (omega (arith, least), omega (arith, below)))
    (λ off. back-is-room rooms here far some is)

pub stays-in-rooms : (rooms seed errand : ℕ) → 3 ≤ rooms → IsRoom rooms (room_after rooms seed errand)
stays-in-rooms rooms seed zero some = (omega arith, omega (arith, some))
stays-in-rooms rooms seed (suc errand) some = target-is-room rooms (room_after rooms seed errand)
    (distance (number_after seed (suc errand))) some (stays-in-rooms rooms seed errand some)
