-- The sorts of an operator's parameters, one after another.
use Rattle.std.proofs.Common.{zero}
use Rattle.px_effects.proofs.Common.{◌≡◌, ℕ, suc, ◌+◌, ◌<◌, List, ◌++◌, ◌∷◌, [], map, length, refl, sym, ap, ◌∙◌, arith, length-map, get_or, has_name, list_any-map, position-map, some-position}
use Rattle.std.specs.Prelude.{slice_index, slice_index_or, if◌then◌else◌}
use Rattle.std.specs.List.{range_with_len}
use Rattle.std.proofs.lemmas.List.FromFn.{map-range_with_len_more}

-- the sort of one parameter
abbrev pub sort_of : ℕ → List (List ℕ) → List (List ℕ) → List ℕ → ℕ → ℕ
sort_of sort ps names old k = if has_name (slice_index_or names k []) ps then sort else slice_index old k

pub one-more-sort : (sort : ℕ) (ps names : List (List ℕ)) (old made : List ℕ) (k x : ℕ)
    → made ≡ map (sort_of sort ps names old) (range_with_len 0 k) → x ≡ sort_of sort ps names old k
    → made ++ x ∷ [] ≡ map (sort_of sort ps names old) (range_with_len 0 (k + 1))
one-more-sort sort ps names old made k x is last = ap (λ t. t ++ x ∷ []) is
    ∙ ap (λ t. map (sort_of sort ps names old) (range_with_len 0 k) ++ t ∷ []) last
    ∙ sym (map-range_with_len_more (sort_of sort ps names old) 0 k k (omega arith))

pub ruleset lengths = (length-map)

-- a place among items seen otherwise
pub ruleset positions = (list_any-map, position-map, some-position)

pub text-at : {A : Type 0} (f : A → List ℕ) (xs : List A) (k : ℕ) (d : A) → k < length xs
    → f (get_or xs k d) ≡ slice_index_or (map f xs) k []
text-at f [] k d below = absurd (omega (arith, below))
text-at f (x ∷ xs) zero d below = refl
text-at f (x ∷ xs) (suc k) d below = text-at f xs k d (omega (arith, below))

pub next-sort : (sort : ℕ) (ps names : List (List ℕ)) (old made : List ℕ) (k x : ℕ) (text : List ℕ) (was : ℕ)
    → made ≡ map (sort_of sort ps names old) (range_with_len 0 k) → x ≡ (if has_name text ps then sort else was) → was ≡ slice_index old k
    → text ≡ slice_index_or names k [] → made ++ x ∷ [] ≡ map (sort_of sort ps names old) (range_with_len 0 (k + 1))
next-sort sort ps names old made k x text was is x_is was_is text_is = one-more-sort sort ps names old made k x is
    (x_is ∙ ap (λ t. if has_name t ps then sort else was) text_is
    ∙ ap (λ w. if has_name (slice_index_or names k []) ps then sort else w) was_is)
