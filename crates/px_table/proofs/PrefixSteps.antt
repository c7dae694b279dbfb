-- Steps of the tests of first steps.
use Rattle.std.proofs.Common.{◌≡◌, ◌⊎◌, ℕ, ◌+◌, ◌<◌, Bool, true, false, sym, subst, inl, inr}
use Rattle.std.specs.Prelude.{◌↔◌, IsTrue}
use Rattle.px_base.proofs.Loops.{level_or_below}

pub first_of_two : (A B : Type 0) (a : Bool) → (IsTrue a ↔ A) → a ≡ true → IsTrue a ↔ (A ⊎ B)
first_of_two A B a decides holds = (λ h. inl (decides.0 h), λ _. holds)

pub second_of_two : (A B : Type 0) (a b : Bool) → (IsTrue a ↔ A) → (IsTrue b ↔ B) → a ≡ false → IsTrue b ↔ (A ⊎ B)
second_of_two A B a b decides other fails =
    (λ h. inr (other.0 h), λ h. elim h [ inl one ↦ absurd (let holds = decides.1 one in cc) | inr two ↦ other.1 two ])

-- one number more
pub each_next : (P : ℕ → Type 0) (i : ℕ) → ((v : ℕ) → v < i → P v) → P i → (v : ℕ) → v < i + 1 → P v
each_next P i before here v less = elim (level_or_below v i less) [ inl earlier ↦ before v earlier | inr now ↦ subst P (sym now) here ]
