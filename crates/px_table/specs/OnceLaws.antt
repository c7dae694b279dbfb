-- Lists in which nothing stands twice: what they have, and how they are made item by item.
use Rattle.std.specs.Prelude.{◌≡◌, ◌+◌, ◌<◌, ℕ, Bool, true, false, cond, not, ◌||◌, List, [], ◌∷◌, ◌++◌, length, map, filter, take, Contains}
use Rattle.std.proofs.Common.{refl, sym, ap, ◌∙◌, subst, inl, inr, append_assoc, append-nil}
use Rattle.std.specs.Bool.{Decides}
use Rattle.std.specs.List.{list_any}
use Rattle.std.proofs.lemmas.List.{take_more, map-append}
use Rattle.std.proofs.lemmas.List.Elements.{filter-append}
use Rattle.std.proofs.Common.{get_or}
use Rattle.px_base.specs.ListLaws.{Contains-first, Contains-later, Contains-cases, Contains-filter}
use Rattle.px_table.specs.Once.{each_once, put_once, put_each}

pub put_each-append : {A : Type 0} (same : A → A → Bool) (xs ys zs : List A)
    → put_each same xs (ys ++ zs) ≡ put_each same (put_each same xs ys) zs
put_each-append same xs [] zs = refl
put_each-append same xs (y ∷ ys) zs = put_each-append same (put_once same xs y) ys zs

-- putting leaves what is there in front
pub put_once-prefix : {A : Type 0} (same : A → A → Bool) (xs : List A) (x : A) → (rest : List A) × (put_once same xs x ≡ xs ++ rest)
put_once-prefix same xs x = elim (list_any (λ y. same y x) xs) as (λ b. (rest : List _) × (cond b xs (xs ++ x ∷ []) ≡ xs ++ rest)) [
  | true ↦ ([], sym (append-nil xs))
  | false ↦ (x ∷ [], refl)
]

pub put_each-prefix : {A : Type 0} (same : A → A → Bool) (xs ys : List A) → (rest : List A) × (put_each same xs ys ≡ xs ++ rest)
put_each-prefix same xs [] = ([], sym (append-nil xs))
put_each-prefix same xs (y ∷ ys) =
    let one = put_once-prefix same xs y in
    let all = put_each-prefix same (put_once same xs y) ys in
    (one.0 ++ all.0, all.1 ∙ ap (λ l. l ++ all.0) one.1 ∙ append_assoc xs one.0 all.0)

-- one more, as at a step of a loop
pub put_each-more : {A B : Type 0} (same : A → A → Bool) (xs : List A) (f : B → A) (ys : List B) (k : ℕ) (d : B) → k < length ys
    → put_each same xs (map f (take (k + 1) ys)) ≡ put_once same (put_each same xs (map f (take k ys))) (f (get_or ys k d))
put_each-more same xs f ys k d below =
    ap (λ l. put_each same xs (map f l)) (take_more ys k d below) ∙ ap (put_each same xs) (map-append f (take k ys) (get_or ys k d ∷ [])) ∙
    put_each-append same xs (map f (take k ys)) (f (get_or ys k d) ∷ [])

module _ {A : Type 0} (same : A → A → Bool) (decides : (x y : A) → Decides (same x y) (x ≡ y)) where
  -- leaving out another item doesn't change whether the item is there
  still_there : (x y : A) (xs : List A) → same x y ≡ false → list_any (λ z. same z y) (filter (λ z. not (same x z)) xs) ≡ list_any
      (λ z. same z y) xs
  still_there x y [] other = refl
  still_there x y (z ∷ xs) other =
      elim (same x z) as (λ b. same x z ≡ b → list_any (λ w. same w y)
      (cond (not b) (z ∷ filter (λ w. not (same x w)) xs) (filter (λ w. not (same x w)) xs)) ≡
      (same z y || list_any (λ w. same w y) xs)) [
        | true ↦ λ is. rw (sym (ap (λ w. same w y) ((decides x z).0 is)) ∙ other) (still_there x y xs other)
        | false ↦ λ _. ap (λ b. same z y || b) (still_there x y xs other)
      ] refl

  put_behind : (x y : A) (xs : List A) → x ∷ filter (λ z. not (same x z)) (put_once same xs y) ≡ put_once same
      (x ∷ filter (λ z. not (same x z)) xs) y
  put_behind x y xs =
      elim (same x y) as (λ b. same x y ≡ b → x ∷ filter (λ z. not (same x z)) (put_once same xs y) ≡ cond
      (b || list_any (λ z. same z y) (filter (λ z. not (same x z)) xs)) (x ∷ filter (λ z. not (same x z)) xs)
      (x ∷ (filter (λ z. not (same x z)) xs ++ y ∷ []))) [
        | true ↦ λ is. ap (λ l. x ∷ l) (dropped is (list_any (λ z. same z y) xs))
        | false ↦ λ other. rw (still_there x y xs other) (kept other (list_any (λ z. same z y) xs))
      ] refl
    where
      dropped : same x y ≡ true → (b : Bool) → filter (λ z. not (same x z)) (cond b xs (xs ++ y ∷ [])) ≡ filter (λ z. not (same x z)) xs
      dropped is true = refl
      dropped is false = filter-append (λ z. not (same x z)) xs (y ∷ []) ∙ rw is (append-nil (filter (λ z. not (same x z)) xs))

      kept : same x y ≡ false → (b : Bool) → x ∷ filter (λ z. not (same x z)) (cond b xs (xs ++ y ∷ [])) ≡ cond b
          (x ∷ filter (λ z. not (same x z)) xs) (x ∷ (filter (λ z. not (same x z)) xs ++ y ∷ []))
      kept other true = refl
      kept other false = ap (λ l. x ∷ l) (filter-append (λ z. not (same x z)) xs (y ∷ []) ∙ rw other refl)

  pub each_once-push : (xs : List A) (y : A) → each_once same (xs ++ y ∷ []) ≡ put_once same (each_once same xs) y
  each_once-push [] y = refl
  each_once-push (x ∷ xs) y = ap (λ l. x ∷ filter (λ z. not (same x z)) l) (each_once-push xs y) ∙ put_behind x y (each_once same xs)

  -- keeping each once is putting one after the other
  pub put_each-each_once : (xs ys : List A) → put_each same (each_once same xs) ys ≡ each_once same (xs ++ ys)
  put_each-each_once xs [] = ap (each_once same) (sym (append-nil xs))
  put_each-each_once xs (y ∷ ys) =
      ap (λ l. put_each same l ys) (sym (each_once-push xs y)) ∙ put_each-each_once (xs ++ y ∷ []) ys ∙ ap (each_once same)
      (append_assoc xs (y ∷ []) ys)

  -- what is in the list is in the one with each once
  pub Contains-each_once : (xs : List A) (y : A) → Contains xs y → Contains (each_once same xs) y
  Contains-each_once [] y has = has
  Contains-each_once (x ∷ xs) y has =
      elim (same x y) as (λ b. same x y ≡ b → Contains (each_once same (x ∷ xs)) y) [
        | true ↦ λ is. subst (Contains (x ∷ filter (λ z. not (same x z)) (each_once same xs))) ((decides x y).0 is) (Contains-first x _)
        | false ↦ λ other. elim (Contains-cases x xs y has) [
          | inl is ↦ subst (Contains (x ∷ filter (λ z. not (same x z)) (each_once same xs))) is (Contains-first x _)
          | inr later ↦ Contains-later x _ y ((Contains-filter (λ z. not (same x z)) (each_once same xs) y).1
              (Contains-each_once xs y later, ap not other))
        ]
      ] refl

-- and nothing else is in it
pub Contains-from_each_once : {A : Type 0} (same : A → A → Bool) (xs : List A) (y : A) → Contains (each_once same xs) y → Contains xs y
Contains-from_each_once same [] y has = has
Contains-from_each_once same (x ∷ xs) y has = elim (Contains-cases x _ y has) [
  | inl is ↦ subst (Contains (x ∷ xs)) is (Contains-first x xs)
  | inr later ↦ Contains-later x xs y (Contains-from_each_once same xs y ((Contains-filter _ (each_once same xs) y).0 later).0)
]
