-- Lists that are made item by item of other lists, and what holds of the terms of each item.
use Rattle.std.specs.Prelude.{◌≡◌, ◌<◌, ◌≤◌, ◌+◌, ℕ, List, [], ◌∷◌, ◌++◌, map, take, length, flat_map, All}
use Rattle.std.proofs.Common.{zero, suc, refl, sym, ap, ◌∙◌, subst, arith, get_or}
use Rattle.std.proofs.lemmas.List.{map-append}
use Rattle.px_base.proofs.Loops.{take_next, whole_taken}
use Rattle.px_terms.specs.declared.term.Term.{Term}
use Rattle.px_proof.specs.declared.proof.Proof.{Proof}
use Rattle.px_proof.specs.Derivation.{Derivation}
use Rattle.px_proof.specs.PlaceLaws.{All-prefix, All-back}
use Rattle.px_proof.specs.ProofTerm.{derivation_of}
use Rattle.px_proof.specs.Substitution.{derivation_under}

-- one item more
pub mapped : {X Y : Type 0} (f : X → Y) (xs : List X) (k : ℕ) (x : X) (made after : List Y) (y : Y) → k < length xs → x ≡ get_or xs k x
    → made ≡ map f (take k xs) → after ≡ made ++ y ∷ [] → y ≡ f x → after ≡ map f (take (k + 1) xs)
mapped f xs k x made after y below is made_is after_is y_is =
    after_is ∙ ap (λ l. l ++ y ∷ []) made_is ∙ ap (λ z. map f (take k xs) ++ z ∷ []) y_is
    ∙ sym (ap (map f) (take_next xs k x below is) ∙ map-append f (take k xs) (x ∷ []))

-- all items
pub mapped_all : {X Y : Type 0} (f : X → Y) (xs : List X) (k : ℕ) (made : List Y) → length xs ≤ k → made ≡ map f (take k xs)
    → made ≡ map f xs
mapped_all f xs k made past made_is = made_is ∙ ap (map f) (whole_taken xs (take k xs) k refl past)

pub map_twice : {X Y Z : Type 0} (f : Y → Z) (g : X → Y) (xs : List X) → map (λ x. f (g x)) xs ≡ map f (map g xs)
map_twice f g [] = refl
map_twice f g (x ∷ xs) = ap (λ l. f (g x) ∷ l) (map_twice f g xs)

-- ---- proofs and rows

-- ---- the terms of an item

pub part-within : {X A : Type 0} (f : X → List A) (P : A → Type 0) (xs : List X) (k : ℕ) (x : X) → k < length xs → x ≡ get_or xs k x
    → All P (flat_map f xs) → All P (f x)
part-within f P [] k x below is all = absurd (omega (arith, below))
part-within f P (y ∷ ys) zero x below is all = subst (λ z. All P (f z)) (sym is) (All-prefix P (f y) (flat_map f ys) all)
part-within f P (y ∷ ys) (suc k) x below is all = part-within f P ys k x (omega (arith, below)) is (All-back P (f y) (flat_map f ys) all)

pub part-within_map : {X Y A : Type 0} (g : X → Y) (f : Y → List A) (P : A → Type 0) (xs : List X) (k : ℕ) (x : X) → k < length xs
    → x ≡ get_or xs k x → All P (flat_map f (map g xs)) → All P (f (g x))
part-within_map g f P [] k x below is all = absurd (omega (arith, below))
part-within_map g f P (y ∷ ys) zero x below is all =
    subst (λ z. All P (f (g z))) (sym is) (All-prefix P (f (g y)) (flat_map f (map g ys)) all)
part-within_map g f P (y ∷ ys) (suc k) x below is all =
    part-within_map g f P ys k x (omega (arith, below)) is (All-back P (f (g y)) (flat_map f (map g ys)) all)
