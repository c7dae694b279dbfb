-- What is so or isn't so.
use Rattle.std.specs.Prelude.{◌≡◌, ◌⊎◌, ◌<◌, ◌≤◌, ℕ, Bool, true, false, List, [], ◌∷◌, All, Contains}
use Rattle.std.proofs.Common.{zero, suc, refl, sym, subst, inl, inr, arith}
use Rattle.std.specs.Bool.{Decides}
use Rattle.std.proofs.lemmas.Bool.{cases_lt}
use Rattle.std.proofs.lemmas.List.Elements.{All-cons, All-head, All-nil, All-tail}
use Rattle.px_base.specs.Answers.{both_answers}
use Rattle.px_base.specs.ListLaws.{Contains-cases, Contains-first, Contains-later, Contains-none}
use Rattle.px_base.proofs.Loops.{level_or_below}
use Rattle.px_terms.specs.declared.atom.Atom.{Atom}
use Rattle.px_terms.specs.Order.{atom_eq}
use Rattle.px_terms.specs.OrderLaws.{atom_eq-decides}

abbrev pub Decided : Type 0 → Type 0
Decided P = P ⊎ (¬ P)

pub decided-by : (b : Bool) (P : Type 0) → Decides b P → Decided P
decided-by true P d = inl (d.0 refl)
decided-by false P d = inr (λ is. both_answers false refl (d.1 is))

pub decided-not : (P : Type 0) → Decided P → Decided (¬ P)
decided-not P (inl is) = inr (λ never. never is)
decided-not P (inr never) = inl never

pub decided-if : (P Q : Type 0) → Decided P → Decided Q → Decided (P → Q)
decided-if P Q p (inl q) = inl (λ _. q)
decided-if P Q (inl p) (inr never) = inr (λ f. never (f p))
decided-if P Q (inr never) (inr q) = inl (λ p. absurd (never p))

pub decided-le : (m n : ℕ) → Decided (m ≤ n)
decided-le m n = elim (cases_lt n m) [ inl less ↦ inr (λ at_most. omega (arith, less, at_most)) | inr at_most ↦ inl at_most ]

pub decided-lt : (m n : ℕ) → Decided (m < n)
decided-lt m n = elim (cases_lt m n) [ inl less ↦ inl less | inr at_most ↦ inr (λ less. omega (arith, less, at_most)) ]

-- of the numbers below one
pub decided-below : (P : ℕ → Type 0) (n : ℕ) → ((k : ℕ) → k < n → Decided (P k)) → Decided ((k : ℕ) → k < n → P k)
decided-below P zero each = inl (λ k below. absurd (omega (arith, below)))
decided-below P (suc n) each = by (each n (omega arith)) (decided-below P n (λ k below. each k (omega (arith, below))))
  where
    by : Decided (P n) → Decided ((k : ℕ) → k < n → P k) → Decided ((k : ℕ) → k < suc n → P k)
    by (inl last) (inl before) = inl (λ k below. elim (level_or_below k n (omega (arith, below))) [
      | inl less ↦ before k less
      | inr same ↦ subst P (sym same) last
    ])
    by (inl last) (inr never) = inr (λ all. never (λ k below. all k (omega (arith, below))))
    by (inr never) before = inr (λ all. never (all n (omega arith)))

-- of the elements of a list
pub decided-all : {X : Type 0} (P : X → Type 0) (xs : List X) → ((x : X) → Contains xs x → Decided (P x)) → Decided (All P xs)
decided-all P [] each = inl (All-nil P)
decided-all {X} P (x ∷ xs) each = by (each x (Contains-first x xs)) (decided-all P xs (λ y has. each y (Contains-later x xs y has)))
  where
    by : Decided (P x) → Decided (All P xs) → Decided (All P (x ∷ xs))
    by (inl first) (inl rest) = inl (All-cons P x xs first rest)
    by (inl first) (inr never) = inr (λ all. never (All-tail P x xs all))
    by (inr never) rest = inr (λ all. never (All-head P x xs all))

pub decided-contains : (atoms : List Atom) (atom : Atom) → Decided (Contains atoms atom)
decided-contains [] atom = inr (Contains-none atom)
decided-contains (one ∷ atoms) atom = by (decided-by (atom_eq one atom) (one ≡ atom) (atom_eq-decides one atom))
    (decided-contains atoms atom)
  where
    by : Decided (one ≡ atom) → Decided (Contains atoms atom) → Decided (Contains (one ∷ atoms) atom)
    by (inl same) rest = inl (subst (Contains (one ∷ atoms)) same (Contains-first one atoms))
    by (inr other) (inl later) = inl (Contains-later one atoms atom later)
    by (inr other) (inr never) = inr (λ has. elim (Contains-cases one atoms atom has) [ inl same ↦ other same | inr later ↦ never later ])
