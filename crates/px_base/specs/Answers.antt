-- Small laws of answers: what two equal answers have in common, and answers that can't both be given.
use Rattle.std.specs.Prelude.{◌≡◌, Bool, true, false, List, ◌∷◌}
use Rattle.std.proofs.Common.{Some, None}

-- equal `Some` have equal values
pub some_same : {X : Type 0} {a b : X} → Some a ≡ Some b → a ≡ b
some_same e = cc

-- a value isn't missing
pub some_or_none : {X G : Type 0} {a : X} → Some a ≡ None → G
some_or_none e = cc

-- no answer is both yes and no
pub both_answers : {G : Type 0} (b : Bool) → b ≡ false → b ≡ true → G
both_answers b f t = cc

-- equal lists have equal heads and equal tails
pub cons_same : {X : Type 0} {x y : X} {xs ys : List X} → x ∷ xs ≡ y ∷ ys → (x ≡ y) × (xs ≡ ys)
cons_same e = (cc, cc)
