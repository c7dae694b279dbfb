-- Proofs made of their parts, from the last part to the first, and their heights: what is taken off the end of a list, and how great
-- heights can be.
use Rattle.px_so_far.proofs.Common.{◌≡◌, ℕ, ◌≤◌, ◌<◌, ◌-◌, suc, List, [], ◌∷◌, ◌++◌, map, take, drop, fold, length, refl, sym, ap, ◌∙◌, arith, AllByRecursion, drop_all, take_all, take-append-drop, fold-append, length-map, length-drop, flat_map, list_any, nat_lt, list_any-map, list_any_flat, cases_lt, inl, inr}
use Rattle.std.specs.Prelude.{max, reverse, ◌^◌}
use Rattle.std.proofs.Math.Nat.{max-le}
use Rattle.std.proofs.lemmas.List.{reverse-append, length-reverse}
use Rattle.std.proofs.Common.{zero}
use Rattle.px_proof.specs.declared.proof.Proof.{Proof}
use Rattle.px_proof.specs.declared.proof.Proof.TheVariants as proof
use Rattle.px_proof.specs.ProofTerm.{derivation_of}
use Rattle.px_proof.specs.LayerLaws.{derivation_of-step}
use Rattle.px_proof.specs.Derivation.{derivations, step}
use Rattle.px_script.specs.Faults.{heights_of, highest, numbers_of_part}
use Rattle.px_script.specs.Items as items
use Rattle.px_script.specs.Items.{a_fact, an_ancestor, an_axiom}
use Rattle.px_lines.specs.ItemViews.{part_view}
use Rattle.px_lines.specs.declared.parts.Part.{Part}

-- ---- taken off the end

module _ {X : Type 0} where
  take-prefix : (xs ys : List X) → take (length xs) (xs ++ ys) ≡ xs
  take-prefix [] ys = refl
  take-prefix (x ∷ xs) ys = ap (λ zs. x ∷ zs) (take-prefix xs ys)

  drop-prefix : (xs ys : List X) → drop (length xs) (xs ++ ys) ≡ ys
  drop-prefix [] ys = refl
  drop-prefix (x ∷ xs) ys = drop-prefix xs ys

  -- the last `count`, the last one first, and what is left of the list
  pub last-taken : (old prefix back : List X) (count : ℕ) → prefix ≡ take (length old - count) old → back ≡ drop (length old - count) old
      → (reverse back ≡ take count (reverse old)) × (reverse prefix ≡ drop count (reverse old))
  last-taken old prefix back count prefix_is back_is =
      let whole : old ≡ prefix ++ back = sym (take-append-drop (length old - count) old)
      ∙ ap (λ xs. xs ++ drop (length old - count) old) (sym prefix_is) ∙ ap (λ xs. prefix ++ xs) (sym back_is) in
      let turned : reverse old ≡ reverse back ++ reverse prefix = ap reverse whole ∙ reverse-append prefix back in
      let size : length (reverse back) ≡ length old - (length old - count)
      = length-reverse back ∙ ap length back_is ∙ length-drop (length old - count) old in
      elim (cases_lt (length old) count) [
        | inl past ↦
            (let all : length (reverse old) ≤ count = omega (arith, length-reverse old, past) in
            let none : length old - count ≡ 0 = omega (arith, past) in
            let back_all : back ≡ old = back_is ∙ ap (λ n. drop n old) none in
            let prefix_none : prefix ≡ [] = prefix_is ∙ ap (λ n. take n old) none in
            (ap reverse back_all ∙ sym (take_all count (reverse old) all), ap reverse prefix_none ∙ sym (drop_all count (reverse old) all)))
        | inr within ↦
            (let same : count ≡ length (reverse back) = omega (arith, size, within) in (
              sym (take-prefix (reverse back) (reverse prefix)) ∙ ap (λ n. take n (reverse back ++ reverse prefix)) (sym same)
                  ∙ ap (take count) (sym turned),
              sym (drop-prefix (reverse back) (reverse prefix)) ∙ ap (λ n. drop n (reverse back ++ reverse prefix)) (sym same)
                  ∙ ap (drop count) (sym turned),
            ))
      ]

  pub one-pushed : (old new : List X) (x : X) → new ≡ old ++ x ∷ [] → reverse new ≡ x ∷ reverse old
  one-pushed old new x is = ap reverse is ∙ reverse-append old (x ∷ [])

-- ---- one height after another, the last one first

pub popped-some : (old new : List ℕ) (x other : ℕ) → old ≡ new ++ x ∷ []
    → (max other x ≡ fold max other (take 1 (reverse old))) × (reverse new ≡ drop 1 (reverse old))
popped-some old new x other is =
    let back : reverse old ≡ x ∷ reverse new = ap reverse is ∙ reverse-append new (x ∷ []) in
    rw back (refl, refl)

pub popped-none : (old new : List ℕ) (other : ℕ) → old ≡ new ++ [] → length old ≡ 0
    → (other ≡ fold max other (take 1 (reverse old))) × (reverse new ≡ drop 1 (reverse old))
popped-none old [] other is none = rw is (refl, refl)
popped-none old (x ∷ new) other is none = absurd (cc (is, none))

-- one height more off the end
module _ (R : List ℕ) where
  take-next : (t : ℕ) → take (suc t) R ≡ take t R ++ take 1 (drop t R)
  take-next t = go t R
    where
      go : (t : ℕ) (R : List ℕ) → take (suc t) R ≡ take t R ++ take 1 (drop t R)
      go zero [] = refl
      go zero (x ∷ R) = refl
      go (suc t) [] = refl
      go (suc t) (x ∷ R) = ap (λ ys. x ∷ ys) (go t R)

  drop-next : (t : ℕ) → drop (suc t) R ≡ drop 1 (drop t R)
  drop-next t = go t R
    where
      go : (t : ℕ) (R : List ℕ) → drop (suc t) R ≡ drop 1 (drop t R)
      go zero R = refl
      go (suc t) [] = refl
      go (suc t) (x ∷ R) = go t R

  pub taken-next : (t next best more : ℕ) (made new : List ℕ) → next ≡ suc t → best ≡ highest (take t R) → reverse made ≡ drop t R
      → more ≡ fold max best (take 1 (reverse made)) → reverse new ≡ drop 1 (reverse made)
      → (more ≡ highest (take next R)) × (reverse new ≡ drop next R)
  taken-next t next best more made new next_is best_is made_is more_is new_is = rw next_is (
    more_is ∙ ap (λ hs. fold max best (take 1 hs)) made_is ∙ ap (λ b. fold max b (take 1 (drop t R))) best_is
        ∙ sym (fold-append max 0 (take t R) (take 1 (drop t R))) ∙ ap highest (sym (take-next t)),
    new_is ∙ ap (drop 1) made_is ∙ sym (drop-next t),
  )

-- ---- how great they can be

fold-within : (b : ℕ) (hs : List ℕ) (a : ℕ) → a ≤ b → AllByRecursion (λ h. h ≤ b) hs → fold max a hs ≤ b
fold-within b [] a low each = low
fold-within b (h ∷ hs) a low each = fold-within b hs (max a h) (max-le low each.0) each.1

take-within : (b n : ℕ) (hs : List ℕ) → AllByRecursion (λ h. h ≤ b) hs → AllByRecursion (λ h. h ≤ b) (take n hs)
take-within b zero hs each = _
take-within b (suc n) [] each = _
take-within b (suc n) (h ∷ hs) each = (each.0, take-within b n hs each.1)

drop-within : (b n : ℕ) (hs : List ℕ) → AllByRecursion (λ h. h ≤ b) hs → AllByRecursion (λ h. h ≤ suc b) (drop n hs)
drop-within b zero [] each = _
drop-within b zero (h ∷ hs) each = (omega (arith, each.0), drop-within b zero hs each.1)
drop-within b (suc n) [] each = _
drop-within b (suc n) (h ∷ hs) each = drop-within b n hs each.1

heights-within : (parts : List items.Part) → AllByRecursion (λ h. h ≤ length parts) (heights_of parts)
heights-within [] = _
heights-within (an_axiom k place count ts ∷ more) =
    let each = heights-within more in
    let top = fold-within (length more) (take count (heights_of more)) 0 (omega arith)
    (take-within (length more) count (heights_of more) each) in
    (omega (arith, top), drop-within (length more) count (heights_of more) each)
heights-within (a_fact column index x ∷ more) = (omega arith, drop-within (length more) 0 (heights_of more) (heights-within more))
heights-within (an_ancestor k ∷ more) = (omega arith, drop-within (length more) 0 (heights_of more) (heights-within more))

below : (b : ℕ) (hs : List ℕ) → b < 2 ^ 63 → AllByRecursion (λ h. h ≤ b) hs → AllByRecursion (λ h. h < 2 ^ 63) hs
below b [] low each = _
below b (h ∷ hs) low each = (omega (arith, low, each.0), below b hs low each.1)

pub heights-below : (parts : List Part) (made : List ℕ) → length parts < 2 ^ 63 → reverse made ≡ heights_of (map part_view parts)
    → AllByRecursion (λ h. h < 2 ^ 63) (reverse made)
heights-below parts made low is =
    rw is (below (length (map part_view parts)) (heights_of (map part_view parts)) (rw (length-map parts part_view) low)
    (heights-within (map part_view parts)))

pub top-below : (n : ℕ) (hs : List ℕ) → AllByRecursion (λ h. h < 2 ^ 63) hs → highest (take n hs) < 2 ^ 63
top-below n hs each = go n hs 0 (omega arith) each
  where
    go : (n : ℕ) (hs : List ℕ) (a : ℕ) → a < 2 ^ 63 → AllByRecursion (λ h. h < 2 ^ 63) hs → fold max a (take n hs) < 2 ^ 63
    go zero hs a low each = low
    go (suc n) [] a low each = low
    go (suc n) (h ∷ hs) a low each = go n hs (max a h) (max-low a h low each.0) each.1
      where
        max-low : (a b : ℕ) → a < 2 ^ 63 → b < 2 ^ 63 → max a b < 2 ^ 63
        max-low a b one other =
            let both : max a b ≤ 2 ^ 63 - 1 = max-le (omega (arith, one)) (omega (arith, other)) in omega (arith, both)

-- ---- proofs by their parts

map-take : {X Y : Type 0} (f : X → Y) (n : ℕ) (xs : List X) → map f (take n xs) ≡ take n (map f xs)
map-take f zero xs = refl
map-take f (suc n) [] = refl
map-take f (suc n) (x ∷ xs) = ap (λ ys. f x ∷ ys) (map-take f n xs)

map-drop : {X Y : Type 0} (f : X → Y) (n : ℕ) (xs : List X) → map f (drop n xs) ≡ drop n (map f xs)
map-drop f zero xs = refl
map-drop f (suc n) [] = refl
map-drop f (suc n) (x ∷ xs) = map-drop f n xs

pub step-pushed : (clause place count : ℕ) (theta : List _) (old left new subs : List Proof)
    → subs ≡ take count (reverse old) → reverse left ≡ drop count (reverse old) → new ≡ left ++ proof.Step clause theta place subs ∷ []
    → map derivation_of (reverse new)
    ≡ step clause theta place (derivations (take count (map derivation_of (reverse old)))) ∷ drop count (map derivation_of (reverse old))
step-pushed clause place count theta old left new subs subs_are left_is new_is =
    let parts : map derivation_of subs ≡ take count (map derivation_of (reverse old))
    = ap (map derivation_of) subs_are ∙ map-take derivation_of count (reverse old) in
    let rest : map derivation_of (reverse left) ≡ drop count (map derivation_of (reverse old))
    = ap (map derivation_of) left_is ∙ map-drop derivation_of count (reverse old) in
    ap (map derivation_of) (one-pushed left new (proof.Step clause theta place subs) new_is)
    ∙ ap (λ d. d ∷ map derivation_of (reverse left)) (derivation_of-step clause theta place subs
    ∙ ap (λ ds. step clause theta place (derivations ds)) parts)
    ∙ ap (λ ds. step clause theta place (derivations (take count (map derivation_of (reverse old)))) ∷ ds) rest

-- ---- their numbers

pub great-parts : (parts : List Part) (most : ℕ)
    → list_any (λ part. list_any (nat_lt most) (numbers_of_part (part_view part))) parts
    ≡ list_any (nat_lt most) (flat_map numbers_of_part (map part_view parts))
great-parts parts most = sym (list_any-map (λ p. list_any (nat_lt most) (numbers_of_part p)) part_view parts)
    ∙ sym (list_any_flat (nat_lt most) numbers_of_part (map part_view parts))
