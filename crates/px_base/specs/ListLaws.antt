-- What is in a list, and what is true of all that is in it: the laws that every layer uses.
use Rattle.std.specs.Prelude.{◌≡◌, ◌↔◌, ◌⊎◌, Bool, cond, true, false, List, [], ◌∷◌, filter, All, Contains, slice_index_or}
use Rattle.std.proofs.Common.{zero, suc, refl, sym, ap, ◌∙◌, subst, inl, inr, arith}
use Rattle.std.proofs.lemmas.List.Elements.{All-contains_itself, Contains-append_right, Contains-append_cases}
use Rattle.std.specs.List.{AllByRecursion}
use Rattle.px_base.specs.Answers.{both_answers}

pub Contains-none : {X : Type 0} (q : X) → ¬ Contains [] q
Contains-none q (k, below, is) = absurd (omega (arith, below))

pub Contains-first : {X : Type 0} (x : X) (xs : List X) → Contains (x ∷ xs) x
Contains-first x xs = (0, omega arith, refl)

pub Contains-later : {X : Type 0} (x : X) (xs : List X) (q : X) → Contains xs q → Contains (x ∷ xs) q
Contains-later x xs q h = Contains-append_right (x ∷ []) xs q h

pub Contains-one : {X : Type 0} (x q : X) → Contains (x ∷ []) q → x ≡ q
Contains-one x q (zero, below, is) = is
Contains-one x q (suc k, below, is) = absurd (omega (arith, below))

pub Contains-cases : {X : Type 0} (x : X) (xs : List X) (q : X) → Contains (x ∷ xs) q → (x ≡ q) ⊎ Contains xs q
Contains-cases x xs q h = elim (Contains-append_cases (x ∷ []) xs q h) [ inl one ↦ inl (Contains-one x q one) | inr later ↦ inr later ]

pub AllByRecursion-at : {X : Type 0} (P : X → Type 0) (xs : List X) (q : X) → AllByRecursion P xs → Contains xs q → P q
AllByRecursion-at P [] q all h = absurd (Contains-none q h)
AllByRecursion-at P (x ∷ xs) q all h = elim (Contains-cases x xs q h)
    [ inl same ↦ subst P same all.0 | inr later ↦ AllByRecursion-at P xs q all.1 later ]

pub AllByRecursion-map : {X : Type 0} (P Q : X → Type 0) → ((x : X) → P x → Q x) → (xs : List X) → AllByRecursion P xs → AllByRecursion Q xs
AllByRecursion-map P Q f [] all = tt
AllByRecursion-map P Q f (x ∷ xs) all = (f x all.0, AllByRecursion-map P Q f xs all.1)

pub All-at : {X : Type 0} (P : X → Type 0) (xs : List X) (q : X) → All P xs → Contains xs q → P q
All-at P xs q all one = subst P one.2 (all one.0 q one.1)

pub All-each : {X : Type 0} (P : X → Type 0) (xs : List X) → ((q : X) → Contains xs q → P q) → All P xs
All-each P xs each k d below = each (slice_index_or xs k d) (All-contains_itself xs k d below)

-- a filtered list has the elements that pass
pub Contains-filter : {X : Type 0} (p : X → Bool) (xs : List X) (q : X) → Contains (filter p xs) q ↔ (Contains xs q × (p q ≡ true))
Contains-filter p [] q = (λ h. absurd (Contains-none q h), λ h. absurd (Contains-none q h.0))
Contains-filter p (x ∷ xs) q =
    let rest = Contains-filter p xs q in
    elim (p x) as (λ b. p x ≡ b → Contains (cond b (x ∷ filter p xs) (filter p xs)) q ↔ (Contains (x ∷ xs) q × (p q ≡ true))) [
      | true ↦ λ pass. (
        λ h. elim (Contains-cases x (filter p xs) q h) [
          | inl is ↦ (subst (Contains (x ∷ xs)) is (Contains-first x xs), sym (ap p is) ∙ pass)
          | inr later ↦ (Contains-later x xs q (rest.0 later).0, (rest.0 later).1)
        ],
        λ h. elim (Contains-cases x xs q h.0) [
          | inl is ↦ subst (Contains (x ∷ filter p xs)) is (Contains-first x (filter p xs))
          | inr later ↦ Contains-later x (filter p xs) q (rest.1 (later, h.1))
        ],
      )
      | false ↦ λ fails. (
        λ h. (Contains-later x xs q (rest.0 h).0, (rest.0 h).1),
        λ h. elim (Contains-cases x xs q h.0) [
          | inl is ↦ both_answers (p x) fails (ap p is ∙ h.1)
          | inr later ↦ rest.1 (later, h.1)
        ],
      )
    ] refl
