-- Edits as a session records them, one by one.
use Rattle.std.specs.Prelude.{◌≡◌, ◌<◌, ◌+◌, ℕ, List, [], ◌∷◌, ◌++◌, length, map, take}
use Rattle.std.proofs.Common.{refl, sym, ap, ◌∙◌, get_or, append_assoc}
use Rattle.std.proofs.lemmas.List.{map_more}

-- the images so far, and the next one
pub map-next : {A B : Type 0} (f : A → B) (xs : List A) (made new : List B) (i : ℕ) (one d : A) → i < length xs → one ≡ get_or xs i d
    → made ≡ map f (take i xs)
    → new ≡ made ++ f one ∷ [] → new ≡ map f (take (i + 1) xs)
map-next f xs made new i one d below is made_is new_is =
    new_is ∙ ap (λ l. l ++ f one ∷ []) made_is ∙ ap (λ x. map f (take i xs) ++ f x ∷ []) is ∙ sym (map_more f xs i d below)

-- the same behind others
pub both-next : {A B : Type 0} (f : A → B) (before : List B) (xs : List A) (made new : List B) (i : ℕ) (one d : A) → i < length xs
    → one ≡ get_or xs i d → made ≡ before ++ map f (take i xs) → new ≡ made ++ f one ∷ [] → new ≡ before ++ map f (take (i + 1) xs)
both-next f before xs made new i one d below is made_is new_is =
    let more = map-next f xs (map f (take i xs)) (map f (take i xs) ++ f one ∷ []) i one d below is refl refl in
    new_is ∙ ap (λ l. l ++ f one ∷ []) made_is ∙ append_assoc before (map f (take i xs)) (f one ∷ []) ∙ ap (λ l. before ++ l) more
