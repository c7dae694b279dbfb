-- What is true of every item of a list.
use Rattle.std.proofs.Common.{◌≡◌, ℕ, zero, suc, arith, Some, List, [], ◌∷◌, ◌++◌, map, slice_get}
use Rattle.std.specs.Prelude.{remove, All, Contains}
use Rattle.px_base.specs.ListLaws.{Contains-first, Contains-later}
use Rattle.std.specs.List.{AllByRecursion}

pub all-weaker : {X : Type 0} (P Q : X → Type 0) (xs : List X) → ((x : X) → P x → Q x) → AllByRecursion P xs → AllByRecursion Q xs
all-weaker P Q [] f all = tt
all-weaker P Q (x ∷ xs) f all = (f x all.0, all-weaker P Q xs f all.1)

pub all-both : {X : Type 0} (P : X → Type 0) (xs ys : List X) → AllByRecursion P xs → AllByRecursion P ys → AllByRecursion P (xs ++ ys)
all-both P [] ys h k = k
all-both P (x ∷ xs) ys h k = (h.0, all-both P xs ys h.1 k)

pub all-push : {X : Type 0} (P : X → Type 0) (xs : List X) (x : X) → AllByRecursion P xs → P x → AllByRecursion P (xs ++ x ∷ [])
all-push P xs x all here = all-both P xs (x ∷ []) all (here, tt)

pub all-mapped : {X Y : Type 0} (P : X → Type 0) (Q : Y → Type 0) (f : X → Y) (xs : List X) → ((x : X) → P x → Q (f x))
    → AllByRecursion P xs → AllByRecursion Q (map f xs)
all-mapped P Q f [] keeps all = tt
all-mapped P Q f (x ∷ xs) keeps all = (keeps x all.0, all-mapped P Q f xs keeps all.1)

pub all-removed : {X : Type 0} (P : X → Type 0) (xs : List X) (k : ℕ) → AllByRecursion P xs → AllByRecursion P (remove xs k)
all-removed P [] zero all = tt
all-removed P [] (suc k) all = tt
all-removed P (x ∷ xs) zero all = all.1
all-removed P (x ∷ xs) (suc k) all = (all.0, all-removed P xs k all.1)

pub all-at : {X : Type 0} (P : X → Type 0) (xs : List X) (k : ℕ) (x : X) → AllByRecursion P xs → slice_get xs k ≡ Some x → P x
all-at P [] k x all at = absurd (cc)
all-at P (y ∷ ys) zero x all at = let same : y ≡ x = cc in rw (← same) all.0
all-at P (y ∷ ys) (suc k) x all at = all-at P ys k x all.1 at

pub all-prefix : {X : Type 0} (P : X → Type 0) (xs ys : List X) → AllByRecursion P (xs ++ ys) → AllByRecursion P xs
all-prefix P [] ys all = tt
all-prefix P (x ∷ xs) ys all = (all.0, all-prefix P xs ys all.1)

pub all-rest : {X : Type 0} (P : X → Type 0) (xs ys : List X) → AllByRecursion P (xs ++ ys) → AllByRecursion P ys
all-rest P [] ys all = all
all-rest P (x ∷ xs) ys all = all-rest P xs ys all.1

pub all-by_contains : {X : Type 0} (P : X → Type 0) (xs : List X) → ((x : X) → Contains xs x → P x) → AllByRecursion P xs
all-by_contains P [] holds = tt
all-by_contains P (x ∷ xs) holds = (holds x (Contains-first x xs), all-by_contains P xs (λ y is_in. holds y (Contains-later x xs y is_in)))

pub all-recursion : {X : Type 0} (P : X → Type 0) (xs : List X) → All P xs → AllByRecursion P xs
all-recursion P [] all = tt
all-recursion P (x ∷ xs) all = (all 0 x (omega arith), all-recursion P xs (λ k d within. all (suc k) d (omega (arith, within))))
