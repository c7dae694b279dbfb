-- What is sensed in the worked example of one object for two.
use Rattle.std.specs.Prelude.{◌≡◌, ◌≢◌, ◌⊎◌, ◌<◌, ◌≤◌, ℕ, Some, None, List, [], ◌∷◌, slice_get, All, Contains}
use Rattle.std.proofs.Common.{zero, suc, refl, sym, ap, ◌∙◌, subst, inl, inr, arith}
use Rattle.std.proofs.lemmas.List.Elements.{All-cons, All-head}
use Rattle.std.specs.Cmp.Lexicographic.{slice_cmp}
use Rattle.std.specs.Ordering.{nat_cmp}
use Rattle.std.specs.declared.cmp.Ordering.TheVariants.{Less, Equal, Greater}
use Rattle.px_base.specs.ListLaws.{Contains-one, Contains-first, Contains-later, All-at}
use Rattle.px_terms.specs.declared.atom.Atom.{Atom}
use Rattle.px_terms.specs.declared.term.Term.{Term}
use Rattle.px_terms.specs.declared.term.Term.TheVariants.{Obj}
use Rattle.px_terms.specs.MergedNamesLaws.{All-nothing, one}
use Rattle.px_base.specs.Answers.{some_same}
use Rattle.px_match.specs.Matching.{Extends, IsSensed, KernelFits}
use Rattle.px_match.specs.WorkedDanger.{AreBothChosen, DangerSensed, a, b, danger, danger_facts, danger_table, g, kernel, p, q, r}
use Rattle.px_match.proofs.DangerLaws.{danger_kernels}

-- ---- which kernel fits with which objects

abbrev ByKernel : List Atom → ℕ → ℕ → ℕ → Type 0
ByKernel atoms i x y =
    ((i ≡ 1) × Contains atoms (p (Obj x)) × Contains atoms (q (Obj y)) × (x ≢ y))
    ⊎ (((i ≡ 2) × Contains atoms (r (Obj x)) × Contains atoms (q (Obj y))) ⊎ ((i ≡ 3) × Contains atoms (g (Obj x))))

abbrev pub Fitting : List (ℕ × ℕ) → List Atom → ℕ → List ℕ → Type 0
Fitting bound atoms i objects = (x : ℕ) × ((y : ℕ) × (objects ≡ x ∷ y ∷ []) × AreBothChosen bound x y × ByKernel atoms i x y)

module _ (bound : List (ℕ × ℕ)) (atoms : List Atom) where
  by_number : (i x y : ℕ) → KernelFits danger danger_table bound atoms i (x ∷ y ∷ []) → Fitting bound atoms i (x ∷ y ∷ [])
  by_number zero x y fits = absurd (omega (arith, fits.from_one))
  by_number (suc zero) x y fits =
      let found = (danger_kernels.first bound atoms x y).0 fits in (x, (y, refl, found.0, inl (refl, found.1.0, found.1.1, found.2)))
  by_number (suc (suc zero)) x y fits =
      let found = (danger_kernels.second bound atoms x y).0 fits in (x, (y, refl, found.0, inr (inl (refl, found.1.0, found.1.1))))
  by_number (suc (suc (suc zero))) x y fits =
      let found = (danger_kernels.third bound atoms x y).0 fits in (x, (y, refl, found.0, inr (inr (refl, found.1))))
  by_number (suc (suc (suc (suc k)))) x y fits = absurd (omega (arith, fits.to_goal))

  pub fitting : (i : ℕ) (objects : List ℕ) → KernelFits danger danger_table bound atoms i objects → Fitting bound atoms i objects
  fitting i [] fits = absurd (omega (arith, fits.instantiation.count))
  fitting i (x ∷ []) fits = absurd (omega (arith, fits.instantiation.count))
  fitting i (x ∷ y ∷ []) fits = by_number i x y fits
  fitting i (x ∷ y ∷ z ∷ rest) fits = absurd (omega (arith, fits.instantiation.count))

-- ---- bound parameters, and atoms that aren't there

pub first_bound : (x y n : ℕ) → (k : ℕ) × (1 ≡ suc k) × (slice_get (x ∷ y ∷ []) k ≡ Some n) → x ≡ n
first_bound x y n (zero, is, at) = some_same at
first_bound x y n (suc k, is, at) = absurd (omega (arith, is))

second_bound : (x y n : ℕ) → (k : ℕ) × (2 ≡ suc k) × (slice_get (x ∷ y ∷ []) k ≡ Some n) → y ≡ n
second_bound x y n (zero, is, at) = absurd (omega (arith, is))
second_bound x y n (suc zero, is, at) = some_same at
second_bound x y n (suc (suc k), is, at) = absurd (omega (arith, is))

first_object : List Term → ℕ
first_object (Obj n ∷ terms) = n
first_object terms = 0

object_of_g : (x y : ℕ) → g (Obj x) ≡ g (Obj y) → x ≡ y
unfolding first_object
object_of_g x y e = ap (λ (atom : Atom). first_object atom.args) e

-- the pair is a parameter of these objects, and its object
abbrev pub IsBound : List ℕ → ℕ × ℕ → Type 0
IsBound objects pair = (k : ℕ) × (pair.0 ≡ suc k) × (slice_get objects k ≡ Some pair.1)

-- no atom of the list has that predicate
pub lacks : (atoms : List Atom) (atom : Atom) → All (λ (other : Atom). other.pred ≢ atom.pred) atoms → ¬ Contains atoms atom
lacks atoms atom others has = All-at (λ (other : Atom). other.pred ≢ atom.pred) atoms atom others has refl

abbrev pub Differs : Atom → Atom → Type 0
Differs atom other = other.pred ≢ atom.pred

pub facts_lack : (atom : Atom) → 2 ≤ atom.pred → ¬ Contains danger_facts atom
facts_lack atom high = lacks danger_facts atom
    (All-cons (Differs atom) (p (Obj a)) (q (Obj a) ∷ q (Obj b) ∷ []) (λ e. omega (arith, e, high))
    (All-cons (Differs atom) (q (Obj a)) (q (Obj b) ∷ []) (λ e. omega (arith, e, high))
    (one (Differs atom) (q (Obj b)) (λ e. omega (arith, e, high)))))

-- ---- the order of lists

pub below_two : (P : ℕ → Type 0) → P 0 → P 1 → (n : ℕ) → n < 2 → P n
below_two P hz ho zero below = hz
below_two P hz ho (suc zero) below = ho
below_two P hz ho (suc (suc n)) below = absurd (omega (arith, below))

-- the first list doesn't stand before the second
abbrev pub NotLess : List ℕ → List ℕ → Type 0
NotLess xs ys = slice_cmp nat_cmp xs ys ≢ Less

pub same_not_less : (xs ys : List ℕ) → slice_cmp nat_cmp xs ys ≡ Equal → NotLess xs ys
same_not_less xs ys e less = absurd (cc)

pub greater_not_less : (xs ys : List ℕ) → slice_cmp nat_cmp xs ys ≡ Greater → NotLess xs ys
greater_not_less xs ys e less = absurd (cc)

-- ---- one object for both

one_object : IsSensed danger danger_table ((1, a) ∷ (2, a) ∷ []) danger_facts None
one_object i objects fits = none_fits (fitting ((1, a) ∷ (2, a) ∷ []) danger_facts i objects fits)
  where
    none_fits : ¬ Fitting ((1, a) ∷ (2, a) ∷ []) danger_facts i objects
    none_fits (x, (y, is, are, inl (number, has_p, has_q, differ))) =
        differ (first_bound x y a (All-head (IsBound (x ∷ y ∷ [])) (1, a) ((2, a) ∷ []) are.2)
        ∙ sym (second_bound x y a (All-at (IsBound (x ∷ y ∷ [])) ((1, a) ∷ (2, a) ∷ []) (2, a) are.2
        (Contains-later (1, a) ((2, a) ∷ []) (2, a) (Contains-first (2, a) [])))))
    none_fits (x, (y, is, are, inr (inl (number, has_r, has_q)))) = facts_lack (r (Obj x)) (omega arith) has_r
    none_fits (x, (y, is, are, inr (inr (number, has_g)))) = facts_lack (g (Obj x)) (omega arith) has_g

-- ---- the first object bound

next_fits : KernelFits danger danger_table ((1, a) ∷ []) danger_facts 1 (a ∷ b ∷ [])
next_fits = (danger_kernels.first ((1, a) ∷ []) danger_facts a b).1 (
  (omega arith, omega arith, one (IsBound (a ∷ b ∷ [])) (1, a) (0, refl, refl)),
  (
    Contains-first (p (Obj a)) (q (Obj a) ∷ q (Obj b) ∷ []),
    Contains-later (p (Obj a)) (q (Obj a) ∷ q (Obj b) ∷ []) (q (Obj b))
        (Contains-later (q (Obj a)) (q (Obj b) ∷ []) (q (Obj b)) (Contains-first (q (Obj b)) [])),
  ),
  λ e. omega (arith, e),
)

next_highest : (j : ℕ) (others : List ℕ) → Fitting ((1, a) ∷ []) danger_facts j others → j ≤ 1
next_highest j others (x, (y, is, are, inl (number, has_p, has_q, differ))) = omega (arith, number)
next_highest j others (x, (y, is, are, inr (inl (number, has_r, has_q)))) = absurd (facts_lack (r (Obj x)) (omega arith) has_r)
next_highest j others (x, (y, is, are, inr (inr (number, has_g)))) = absurd (facts_lack (g (Obj x)) (omega arith) has_g)

next_first : (others : List ℕ) → Fitting ((1, a) ∷ []) danger_facts 1 others → NotLess others (a ∷ b ∷ [])
next_first others (x, (y, is, are, inl (number, has_p, has_q, differ))) =
    let first : x ≡ a = first_bound x y a (All-head (IsBound (x ∷ y ∷ [])) (1, a) [] are.2) in
    let second : y ≡ b = grind (arith, are.1, differ, first) in
    subst (λ (xs : List ℕ). NotLess xs (a ∷ b ∷ [])) (sym (is ∙ ap (λ n. n ∷ y ∷ []) first ∙ ap (λ n. a ∷ n ∷ []) second))
    (same_not_less (a ∷ b ∷ []) (a ∷ b ∷ []) refl)
next_first others (x, (y, is, are, inr (inl (number, has_r, has_q)))) = absurd (omega (arith, number))
next_first others (x, (y, is, are, inr (inr (number, has_g)))) = absurd (omega (arith, number))

next_object : IsSensed danger danger_table ((1, a) ∷ []) danger_facts (Some (kernel 1 a b))
next_object = record {
  fits = next_fits;
  highest = λ j others fits. next_highest j others (fitting ((1, a) ∷ []) danger_facts j others fits);
  first = λ others fits. next_first others (fitting ((1, a) ∷ []) danger_facts 1 others fits);
}

-- ---- a higher kernel

abbrev with_r : List Atom
with_r = p (Obj a) ∷ q (Obj a) ∷ q (Obj b) ∷ r (Obj a) ∷ []

has_r : Contains with_r (r (Obj a))
has_r = Contains-later (p (Obj a)) (q (Obj a) ∷ q (Obj b) ∷ r (Obj a) ∷ []) (r (Obj a))
    (Contains-later (q (Obj a)) (q (Obj b) ∷ r (Obj a) ∷ []) (r (Obj a))
    (Contains-later (q (Obj b)) (r (Obj a) ∷ []) (r (Obj a)) (Contains-first (r (Obj a)) [])))

has_q : Contains with_r (q (Obj a))
has_q =
    Contains-later (p (Obj a)) (q (Obj a) ∷ q (Obj b) ∷ r (Obj a) ∷ []) (q (Obj a))
    (Contains-first (q (Obj a)) (q (Obj b) ∷ r (Obj a) ∷ []))

no_g : (x : ℕ) → ¬ Contains with_r (g (Obj x))
no_g x = lacks with_r (g (Obj x))
    (All-cons (Differs (g (Obj x))) (p (Obj a)) (q (Obj a) ∷ q (Obj b) ∷ r (Obj a) ∷ []) (λ e. omega (arith, e))
    (All-cons (Differs (g (Obj x))) (q (Obj a)) (q (Obj b) ∷ r (Obj a) ∷ []) (λ e. omega (arith, e))
    (All-cons (Differs (g (Obj x))) (q (Obj b)) (r (Obj a) ∷ []) (λ e. omega (arith, e))
    (one (Differs (g (Obj x))) (r (Obj a)) (λ e. omega (arith, e))))))

no_bound : (objects : List ℕ) → Extends [] objects
no_bound objects = All-nothing (IsBound objects)

higher_highest : (j : ℕ) (others : List ℕ) → Fitting [] with_r j others → j ≤ 2
higher_highest j others (x, (y, is, are, inl (number, has_p, has_q, differ))) = omega (arith, number)
higher_highest j others (x, (y, is, are, inr (inl (number, has_r, has_q)))) = omega (arith, number)
higher_highest j others (x, (y, is, are, inr (inr (number, has_g)))) = absurd (no_g x has_g)

-- no two objects stand before the least ones
least_first : (x y : ℕ) → x < 2 → y < 2 → NotLess (x ∷ y ∷ []) (a ∷ a ∷ [])
least_first x y low below =
    below_two (λ n. NotLess (n ∷ y ∷ []) (a ∷ a ∷ []))
    (below_two (λ m. NotLess (0 ∷ m ∷ []) (a ∷ a ∷ [])) (same_not_less (0 ∷ 0 ∷ []) (a ∷ a ∷ []) refl)
    (greater_not_less (0 ∷ 1 ∷ []) (a ∷ a ∷ []) refl) y below)
    (below_two (λ m. NotLess (1 ∷ m ∷ []) (a ∷ a ∷ [])) (greater_not_less (1 ∷ 0 ∷ []) (a ∷ a ∷ []) refl)
    (greater_not_less (1 ∷ 1 ∷ []) (a ∷ a ∷ []) refl) y below)
    x low

higher_first : (others : List ℕ) → Fitting [] with_r 2 others → NotLess others (a ∷ a ∷ [])
higher_first others (x, (y, is, are, by)) = subst (λ (xs : List ℕ). NotLess xs (a ∷ a ∷ [])) (sym is) (least_first x y are.0 are.1)

higher : IsSensed danger danger_table [] with_r (Some (kernel 2 a a))
higher = record {
  fits = (danger_kernels.second [] with_r a a).1 ((omega arith, omega arith, no_bound (a ∷ a ∷ [])), (has_r, has_q));
  highest = λ j others fits. higher_highest j others (fitting [] with_r j others fits);
  first = λ others fits. higher_first others (fitting [] with_r 2 others fits);
}

-- ---- a parameter in no mark of the kernel

last_first : (others : List ℕ) → Fitting [] (g (Obj b) ∷ []) 3 others → NotLess others (b ∷ a ∷ [])
last_first others (x, (y, is, are, inl (number, has_p, has_q, differ))) = absurd (omega (arith, number))
last_first others (x, (y, is, are, inr (inl (number, has_r, has_q)))) = absurd (omega (arith, number))
last_first others (x, (y, is, are, inr (inr (number, has_g)))) =
    let same : b ≡ x = object_of_g b x (Contains-one (g (Obj b)) (g (Obj x)) has_g) in
    subst (λ (xs : List ℕ). NotLess xs (b ∷ a ∷ [])) (sym (is ∙ ap (λ n. n ∷ y ∷ []) (sym same)))
    (below_two (λ m. NotLess (1 ∷ m ∷ []) (b ∷ a ∷ [])) (same_not_less (1 ∷ 0 ∷ []) (b ∷ a ∷ []) refl)
    (greater_not_less (1 ∷ 1 ∷ []) (b ∷ a ∷ []) refl) y are.1)

unused : IsSensed danger danger_table [] (g (Obj b) ∷ []) (Some (kernel 3 b a))
unused = record {
  fits =
      (danger_kernels.third [] (g (Obj b) ∷ []) b a).1 ((omega arith, omega arith, no_bound (b ∷ a ∷ [])), Contains-first (g (Obj b)) []);
  highest = λ j others fits. fits.to_goal;
  first = λ others fits. last_first others (fitting [] (g (Obj b) ∷ []) 3 others fits);
}

pub danger_sensed : DangerSensed
danger_sensed =
    record {
      one_object = one_object;
      next_object = next_object;
      higher = higher;
      unused = unused;
      above = refl;
      zero = refl;
      within = refl;
    }
