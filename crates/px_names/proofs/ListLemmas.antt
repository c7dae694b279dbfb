-- Tests of the items of a mapped list.
use Rattle.std.proofs.Common.{◌≡◌, ℕ, Bool, false, cond, List, [], ◌∷◌, ◌++◌, map, refl, ap, length, suc, ◌+◌}
use Rattle.std.specs.Prelude.{position, ◌||◌, not}
use Rattle.std.specs.Str.{bytes_eq}
use Rattle.indexmap.specs.IndexSet.{insert_key}
use Rattle.std.proofs.lemmas.List.{map-append}
use Rattle.std.specs.List.{list_any, prefix_len}

pub list_any-map : {X Y : Type 0} (p : Y → Bool) (f : X → Y) (xs : List X) → list_any p (map f xs) ≡ list_any (λ x. p (f x)) xs
list_any-map p f [] = refl
list_any-map p f (x ∷ xs) = ap (λ b. p (f x) || b) (list_any-map p f xs)

pub length_map : {X Y : Type 0} (f : X → Y) (xs : List X) → length (map f xs) ≡ length xs
length_map f [] = refl
length_map f (x ∷ xs) = ap suc (length_map f xs)

pub prefix_len-map : {X Y : Type 0} (p : Y → Bool) (f : X → Y) (xs : List X) → prefix_len p (map f xs) ≡ prefix_len (λ x. p (f x)) xs
prefix_len-map p f [] = refl
prefix_len-map p f (x ∷ xs) = ap (λ n. cond (p (f x)) (1 + n) 0) (prefix_len-map p f xs)

pub position-map : {X Y : Type 0} (p : Y → Bool) (f : X → Y) (xs : List X) → position p (map f xs) ≡ position (λ x. p (f x)) xs
position-map p f xs = rw (length_map f xs, prefix_len-map (λ x. not (p x)) f xs) refl

-- a key whose name isn't there goes last
pub names-insert_key : {K : Type 0} (f : K → List ℕ) (name : List ℕ) (keys new : List K) (value : K) → f value ≡ name
    → list_any (bytes_eq name) (map f keys) ≡ false → new ≡ insert_key (λ a b. bytes_eq (f a) (f b)) keys value
    → map f new ≡ map f keys ++ name ∷ []
names-insert_key f name keys new value named absent inserted =
    let absent_key : list_any (λ k. bytes_eq (f value) (f k)) keys ≡ false = rw (named, ← list_any-map (bytes_eq name) f keys) absent in
    rw (inserted, absent_key, map-append, named) refl
