-- The numbers of pairs, pair by pair and in one list.
use Rattle.px_causes.proofs.Common.{◌≡◌, ℕ, Bool, true, false, List, [], ◌∷◌, refl, ap, ◌∙◌, ◌||◌, nat_lt, list_any, flat_map}
use Rattle.px_script.specs.declared.limits.TheConstants.{LAST_NUMBER as last_number}

grouped : (a b c : Bool) → ((a || b) || c) ≡ (a || (b || c))
grouped true b c = refl
grouped false b c = refl

pub great-pairs : (pairs : List (ℕ × ℕ)) → list_any (λ pair. nat_lt last_number pair.0 || nat_lt last_number pair.1) pairs
    ≡ list_any (nat_lt last_number) (flat_map (λ pair. pair.0 ∷ pair.1 ∷ []) pairs)
great-pairs [] = refl
great-pairs (pair ∷ more) = ap (λ b. (nat_lt last_number pair.0 || nat_lt last_number pair.1) || b) (great-pairs more)
    ∙ grouped (nat_lt last_number pair.0) (nat_lt last_number pair.1)
    (list_any (nat_lt last_number) (flat_map (λ pair. pair.0 ∷ pair.1 ∷ []) more))
