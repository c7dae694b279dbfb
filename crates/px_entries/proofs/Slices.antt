-- What is left of a list from a place on.
use Rattle.std.proofs.Common.{◌≡◌, ◌+◌, ◌-◌, ◌<◌, ℕ, zero, suc, List, [], ◌∷◌, length, take, drop, get_or, refl, ap, ◌∙◌, arith, length-drop}
use Rattle.std.proofs.lemmas.List.{take_all}

-- a slice to the end is the list without what is before it
pub rest_is : {X : Type 0} (n : ℕ) (xs : List X) → take (length xs - n) (drop n xs) ≡ drop n xs
rest_is n xs = take_all (length xs - n) (drop n xs) (omega (arith, length-drop n xs))

-- the same of a borrowed list
pub rest_of : {X : Type 0} (n : ℕ) (lent xs : List X) → lent ≡ xs → take (length lent - n) (drop n lent) ≡ drop n xs
rest_of n lent xs same = rest_is n lent ∙ ap (drop n) same

-- a slice of one element
pub slice_one : {X : Type 0} (xs : List X) (n : ℕ) (d : X) → n < length xs → take (n + 1 - n) (drop n xs) ≡ get_or xs n d ∷ []
slice_one xs n d below = ap (λ (m : ℕ). take m (drop n xs)) (one_more n) ∙ first_of xs n d below
  where
    one_more : (n : ℕ) → n + 1 - n ≡ 1
    one_more n = omega arith

    first_of : {X : Type 0} (xs : List X) (n : ℕ) (d : X) → n < length xs → take 1 (drop n xs) ≡ get_or xs n d ∷ []
    first_of [] n d below = absurd (omega (arith, below))
    first_of (x ∷ xs) zero d below = refl
    first_of (x ∷ xs) (suc n) d below = first_of xs n d (omega (arith, below))
