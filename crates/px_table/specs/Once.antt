-- Lists in which nothing stands twice.
use Rattle.std.specs.Prelude.{◌≡◌, ◌≤◌, ℕ, Bool, cond, not, Option, Some, None, List, [], ◌∷◌, ◌++◌, length, filter, take}
use Rattle.std.specs.List.{list_any}

-- the items of the list, each kept only where it stands first
abbrev pub each_once : {A : Type 0} → (A → A → Bool) → List A → List A
each_once same [] = []
each_once same (x ∷ xs) = x ∷ filter (λ y. not (same x y)) (each_once same xs)

-- the item put last, unless the list has it
abbrev pub put_once : {A : Type 0} → (A → A → Bool) → List A → A → List A
put_once same xs x = cond (list_any (λ y. same y x) xs) xs (xs ++ x ∷ [])

-- one item after the other
abbrev pub put_each : {A : Type 0} → (A → A → Bool) → List A → List A → List A
put_each same xs [] = xs
put_each same xs (y ∷ ys) = put_each same (put_once same xs y) ys

-- where the list begins with the wanted items, how many these are; else nothing
abbrev pub IsPrefix : {A : Type 0} → List A → List A → Option ℕ → Type 0
IsPrefix list wanted (Some count) = (count ≤ length list) × (take count list ≡ wanted)
IsPrefix list wanted None = (rest : List _) → ¬ (list ≡ wanted ++ rest)
