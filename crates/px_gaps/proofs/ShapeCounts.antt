-- Counting shapes: of one kind or another, of a list by its first part and the rest, and after a tick.
use Rattle.std.proofs.Common.{◌≡◌, ◌⊎◌, ℕ, ◌+◌, ◌*◌, List, [], ◌∷◌, ◌++◌, length, map, sym, subst, inl, inr, arith}
use Rattle.std.specs.Prelude.{Contains}
use Rattle.std.proofs.Math.Nat.{suc-mul}
use Rattle.std.proofs.lemmas.List.{length-append, length-map}
use Rattle.std.proofs.lemmas.List.Elements.{Contains-append_left, Contains-append_right}
use Rattle.std.proofs.lemmas.Nat.{mul-le}
use Rattle.px_base.specs.ListLaws.{Contains-cases, Contains-first, Contains-none}
use Rattle.px_proof.specs.PlaceLaws.{Contains-mapped}
use Rattle.px_proof.specs.declared.shape.Tick.{Tick}
use Rattle.px_proof.specs.declared.shape.Tick.TheVariants.{Fact, Anc, Step, Gap, Open}
use Rattle.px_proof.specs.Shapes.{IsUnfinished, OnlyOpen}
use Rattle.px_gaps.specs.Bounds.{AreAtMost, IsBoundFor, HasNoOpenTick, bound_either}
use Rattle.px_gaps.specs.declared.bounds.Bound.{Bound}

-- ---- a shape in two parts

open-parts : (a b : List Tick) → OnlyOpen (a ++ b) → OnlyOpen a × OnlyOpen b
open-parts [] b only = (tt, only)
open-parts (Open ∷ a) b only = open-parts a b only
open-parts (Fact i ∷ a) b only = absurd only
open-parts (Anc i ∷ a) b only = absurd only
open-parts (Step n p ∷ a) b only = absurd only
open-parts (Gap ∷ a) b only = absurd only

-- an unfinished shape is unfinished in its first part, and open from there on, or it is finished there and unfinished later
pub unfinished-parts : (a b : List Tick) → IsUnfinished (a ++ b) → (IsUnfinished a × OnlyOpen b) ⊎ (HasNoOpenTick a × IsUnfinished b)
unfinished-parts [] b is = inr (tt, is)
unfinished-parts (Open ∷ a) b is = inl (open-parts a b is)
unfinished-parts (Fact i ∷ a) b is = unfinished-parts a b is
unfinished-parts (Anc i ∷ a) b is = unfinished-parts a b is
unfinished-parts (Step n p ∷ a) b is = unfinished-parts a b is
unfinished-parts (Gap ∷ a) b is = unfinished-parts a b is

pub finished-parts : (a b : List Tick) → HasNoOpenTick (a ++ b) → HasNoOpenTick a × HasNoOpenTick b
finished-parts [] b is = (tt, is)
finished-parts (Open ∷ a) b is = absurd is
finished-parts (Fact i ∷ a) b is = finished-parts a b is
finished-parts (Anc i ∷ a) b is = finished-parts a b is
finished-parts (Step n p ∷ a) b is = finished-parts a b is
finished-parts (Gap ∷ a) b is = finished-parts a b is

-- ---- lists of shapes

-- each of the first ones before each of the second ones
pairs : List (List Tick) → List (List Tick) → List (List Tick)
pairs [] ys = []
pairs (x ∷ xs) ys = map (λ y. x ++ y) ys ++ pairs xs ys

pairs-length : (xs ys : List (List Tick)) → length (pairs xs ys) ≡ length xs * length ys
unfolding pairs
pairs-length [] ys = omega arith
pairs-length (x ∷ xs) ys =
    let rest = pairs-length xs ys in
    let here = length-map ys (λ (y : List Tick). x ++ y) in
    let both = length-append (map (λ (y : List Tick). x ++ y) ys) (pairs xs ys) in
    let product = suc-mul (length xs) (length ys) in
    omega (arith, rest, here, both, product)

pairs-has : (xs ys : List (List Tick)) (a b : List Tick) → Contains xs a → Contains ys b → Contains (pairs xs ys) (a ++ b)
unfolding pairs
pairs-has [] ys a b has other = absurd (Contains-none a has)
pairs-has (x ∷ xs) ys a b has other = elim (Contains-cases x xs a has) [
  | inl is ↦ subst (λ (z : List Tick). Contains (map (λ y. x ++ y) ys ++ pairs xs ys) (z ++ b)) is
      (Contains-append_left (map (λ (y : List Tick). x ++ y) ys) (pairs xs ys) (x ++ b)
      (Contains-mapped (λ (y : List Tick). x ++ y) ys b other))
  | inr later ↦ Contains-append_right (map (λ (y : List Tick). x ++ y) ys) (pairs xs ys) (a ++ b) (pairs-has xs ys a b later other)
]

-- ---- counts

pub at_most-none : (Q : List Tick → Type 0) → ((shape : List Tick) → ¬ Q shape) → AreAtMost Q 0
at_most-none Q never = record { seen = []; few = omega arith; all = λ shape q. absurd (never shape q) }

pub at_most-one : (Q : List Tick → Type 0) (only : List Tick) → ((shape : List Tick) → Q shape → shape ≡ only) → AreAtMost Q 1
at_most-one Q only is = record {
  seen = only ∷ [];
  few = omega arith;
  all = λ shape q. subst (Contains (only ∷ [])) (sym (is shape q)) (Contains-first {X = List Tick} only []);
}

pub at_most-either : (P R Q : List Tick → Type 0) (m n : ℕ) → AreAtMost P m → AreAtMost R n
    → ((shape : List Tick) → Q shape → P shape ⊎ R shape) → AreAtMost Q (m + n)
at_most-either P R Q m n first second cases = record {
  seen = first.seen ++ second.seen;
  few = let long = length-append first.seen second.seen in omega (arith, long, first.few, second.few);
  all = λ shape q. elim (cases shape q) [
    | inl p ↦ Contains-append_left first.seen second.seen shape (first.all shape p)
    | inr r ↦ Contains-append_right first.seen second.seen shape (second.all shape r)
  ];
}

pub at_most-pairs : (P R Q : List Tick → Type 0) (m n : ℕ) → AreAtMost P m → AreAtMost R n
    → ((shape : List Tick) → Q shape → (a : List Tick) × (b : List Tick) × P a × R b × (a ++ b ≡ shape)) → AreAtMost Q (m * n)
at_most-pairs P R Q m n first second parts = record {
  seen = pairs first.seen second.seen;
  few =
      let long = pairs-length first.seen second.seen in
      let most = mul-le (length first.seen) (length second.seen) m n first.few second.few in
      omega (arith, long, most);
  all = λ shape q. let (a, b, p, r, is) = parts shape q in
      subst (Contains (pairs first.seen second.seen)) is (pairs-has first.seen second.seen a b (first.all a p) (second.all b r));
}

pub at_most-image : (f : List Tick → List Tick) (P Q : List Tick → Type 0) (n : ℕ) → AreAtMost P n
    → ((shape : List Tick) → Q shape → (a : List Tick) × P a × (f a ≡ shape)) → AreAtMost Q n
at_most-image f P Q n all_of made = record {
  seen = map f all_of.seen;
  few = let long = length-map all_of.seen f in omega (arith, long, all_of.few);
  all = λ shape q. let (a, p, is) =
      made shape q in subst (Contains (map f all_of.seen)) is (Contains-mapped f all_of.seen a (all_of.all a p));
}

-- ---- bounds

pub bound_for-either : (P R Q : List Tick → Type 0) (first second : Bound) → IsBoundFor P first → IsBoundFor R second
    → ((shape : List Tick) → Q shape → P shape ⊎ R shape) → IsBoundFor Q (bound_either first second)
bound_for-either P R Q first second one other cases = record {
  unfinished = at_most-either (λ shape. IsUnfinished shape × P shape) (λ shape. IsUnfinished shape × R shape)
      (λ shape. IsUnfinished shape × Q shape) first.unfinished second.unfinished one.unfinished other.unfinished
      (λ shape h. elim (cases shape h.1) [ inl p ↦ inl (h.0, p) | inr r ↦ inr (h.0, r) ]);
  finished = at_most-either (λ shape. HasNoOpenTick shape × P shape) (λ shape. HasNoOpenTick shape × R shape)
      (λ shape. HasNoOpenTick shape × Q shape) first.finished second.finished one.finished other.finished
      (λ shape h. elim (cases shape h.1) [ inl p ↦ inl (h.0, p) | inr r ↦ inr (h.0, r) ]);
}

pub bound_for-none : (Q : List Tick → Type 0) → ((shape : List Tick) → ¬ Q shape) → IsBoundFor Q (record { unfinished = 0; finished = 0 })
bound_for-none Q never = record {
  unfinished = at_most-none (λ shape. IsUnfinished shape × Q shape) (λ shape h. never shape h.1);
  finished = at_most-none (λ shape. HasNoOpenTick shape × Q shape) (λ shape h. never shape h.1);
}

pub bound_for-step : (number place : ℕ) (P Q : List Tick → Type 0) (bound : Bound) → IsBoundFor P bound
    → ((shape : List Tick) → Q shape → (a : List Tick) × P a × (Step number place ∷ a ≡ shape)) → IsBoundFor Q bound
bound_for-step number place P Q bound of_parts made = record {
  unfinished = at_most-image (λ a. Step number place ∷ a) (λ shape. IsUnfinished shape × P shape)
      (λ shape. IsUnfinished shape × Q shape) bound.unfinished of_parts.unfinished
      (λ shape h. let (a, p, is) = made shape h.1 in (a, (subst IsUnfinished (sym is) h.0, p), is));
  finished = at_most-image (λ a. Step number place ∷ a) (λ shape. HasNoOpenTick shape × P shape)
      (λ shape. HasNoOpenTick shape × Q shape) bound.finished of_parts.finished
      (λ shape h. let (a, p, is) = made shape h.1 in (a, (subst HasNoOpenTick (sym is) h.0, p), is));
}
