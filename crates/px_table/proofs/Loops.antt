-- Steps of loops over lists: what was made of the items so far, and two lists item by item.
use Rattle.std.proofs.Common.{◌≡◌, ℕ, zero, suc, ◌+◌, ◌<◌, ◌≤◌, List, [], ◌∷◌, ◌++◌, length, map, take, drop, get_or, sym, ap, ◌∙◌, arith}
use Rattle.std.specs.Prelude.{All}
use Rattle.std.specs.List.{AllZip}
use Rattle.std.proofs.lemmas.List.{get_or-map, map-append, take_all, take_more}
use Rattle.std.proofs.lemmas.List.Elements.{All-cons}

-- two lists that agree so far, under a map
pub map_next : {X Y : Type 0} (f : X → Y) (xs : List X) (ys : List Y) (i : ℕ) (d : X) (e : Y) → i < length xs → i < length ys
    → map f (take i xs) ≡ take i ys → f (get_or xs i d) ≡ get_or ys i e → map f (take (i + 1) xs) ≡ take (i + 1) ys
map_next f xs ys i d e below below' so_far here =
    ap (map f) (take_more xs i d below) ∙ map-append f (take i xs) (get_or xs i d ∷ []) ∙ ap (λ l. l ++ f (get_or xs i d) ∷ []) so_far
    ∙ ap (λ y. take i ys ++ y ∷ []) here ∙ sym (take_more ys i e below')

pub map_all : {X Y : Type 0} (f : X → Y) (xs : List X) (ys : List Y) (i : ℕ) → length xs ≤ i → length ys ≤ i → map f (take i xs) ≡ take i ys
    → map f xs ≡ ys
map_all f xs ys i long long' so_far = ap (map f) (sym (take_all i xs long)) ∙ so_far ∙ take_all i ys long'

pub map_at : {X Y : Type 0} (f : X → Y) (xs : List X) (ys : List Y) (i : ℕ) (d : X) (e : Y) → i < length xs → map f xs ≡ ys
    → f (get_or xs i d) ≡ get_or ys i e
map_at f xs ys i d e below same = sym (get_or-map f xs i d e below) ∙ ap (λ l. get_or l i e) same

-- ---- two lists, item by item

module _ {A B : Type 0} (R : A → B → Type 0) where
  pub zip_at : (xs : List A) (ys : List B) (i : ℕ) (d : A) (e : B) → AllZip R xs ys → i < length xs → R (get_or xs i d) (get_or ys i e)
  zip_at [] [] i d e h below = absurd (omega (arith, below))
  zip_at [] (y ∷ ys) i d e h below = absurd h
  zip_at (x ∷ xs) [] i d e h below = absurd h
  zip_at (x ∷ xs) (y ∷ ys) zero d e h below = h.0
  zip_at (x ∷ xs) (y ∷ ys) (suc i) d e h below = zip_at xs ys i d e h.1 (omega (arith, below))

  pub zip_from : (xs : List A) (ys : List B) (i : ℕ) (d : A) (e : B) → i < length xs → i < length ys
      → AllZip R (drop i xs) (drop i ys) → R (get_or xs i d) (get_or ys i e) × AllZip R (drop (suc i) xs) (drop (suc i) ys)
  zip_from [] ys i d e below below' h = absurd (omega (arith, below))
  zip_from (x ∷ xs) [] i d e below below' h = absurd (omega (arith, below'))
  zip_from (x ∷ xs) (y ∷ ys) zero d e below below' h = (h.0, h.1)
  zip_from (x ∷ xs) (y ∷ ys) (suc i) d e below below' h = zip_from xs ys i d e (omega (arith, below)) (omega (arith, below')) h

  pub zip_onto : (xs : List A) (ys : List B) (i : ℕ) (d : A) (e : B) → i < length xs → i < length ys
      → R (get_or xs i d) (get_or ys i e) → AllZip R (drop (suc i) xs) (drop (suc i) ys) → AllZip R (drop i xs) (drop i ys)
  zip_onto [] ys i d e below below' here rest = absurd (omega (arith, below))
  zip_onto (x ∷ xs) [] i d e below below' here rest = absurd (omega (arith, below'))
  zip_onto (x ∷ xs) (y ∷ ys) zero d e below below' here rest = (here, rest)
  zip_onto (x ∷ xs) (y ∷ ys) (suc i) d e below below' here rest =
      zip_onto xs ys i d e (omega (arith, below)) (omega (arith, below')) here rest

-- a partner for each item
pub zip_partners : {A B : Type 0} (R : A → B → Type 0) (ys : List B) → All (λ y. (x : A) × R x y) ys → (xs : List A) × AllZip R xs ys
zip_partners R [] all = ([], tt)
zip_partners R (y ∷ ys) all =
    let first = all 0 y (omega arith) in
    let rest = zip_partners R ys (λ k d below. all (suc k) d (omega (arith, below))) in
    (first.0 ∷ rest.0, (first.1, rest.1))

-- each item has its partner
pub zip_each : {A B : Type 0} (R : A → B → Type 0) (xs : List A) (ys : List B) → AllZip R xs ys → All (λ y. (x : A) × R x y) ys
zip_each R [] [] h = λ k d below. absurd (omega (arith, below))
zip_each R [] (y ∷ ys) h = absurd h
zip_each R (x ∷ xs) [] h = absurd h
zip_each R (x ∷ xs) (y ∷ ys) h = All-cons (λ y. (x : _) × R x y) y ys (x, h.0) (zip_each R xs ys h.1)

-- the second list under a map
pub zip_to_map : {A B C : Type 0} (R : A → C → Type 0) (g : B → C) (xs : List A) (ys : List B) → AllZip (λ x y. R x (g y)) xs ys
    → AllZip R xs (map g ys)
zip_to_map R g [] [] h = h
zip_to_map R g [] (y ∷ ys) h = absurd h
zip_to_map R g (x ∷ xs) [] h = absurd h
zip_to_map R g (x ∷ xs) (y ∷ ys) h = (h.0, zip_to_map R g xs ys h.1)

pub zip_from_map : {A B C : Type 0} (R : A → C → Type 0) (g : B → C) (xs : List A) (ys : List B) → AllZip R xs (map g ys)
    → AllZip (λ x y. R x (g y)) xs ys
zip_from_map R g [] [] h = h
zip_from_map R g [] (y ∷ ys) h = absurd h
zip_from_map R g (x ∷ xs) [] h = absurd h
zip_from_map R g (x ∷ xs) (y ∷ ys) h = (h.0, zip_from_map R g xs ys h.1)

pub zip_weaker : {A B : Type 0} (R S : A → B → Type 0) → ((x : A) (y : B) → R x y → S x y) → (xs : List A) (ys : List B) → AllZip R xs ys
    → AllZip S xs ys
zip_weaker R S f [] [] h = tt
zip_weaker R S f [] (y ∷ ys) h = absurd h
zip_weaker R S f (x ∷ xs) [] h = absurd h
zip_weaker R S f (x ∷ xs) (y ∷ ys) h = (f x y h.0, zip_weaker R S f xs ys h.1)
