-- The facts that are instances of a form stand together.
use Rattle.std.proofs.Common.{◌≡◌, ◌∙◌, ◌⊎◌, ◌↔◌, ℕ, zero, suc, ◌<◌, ◌≤◌, Some, List, [], ◌∷◌, length, take, slice_get, refl, sym, inl, inr, arith}
use Rattle.std.specs.Prelude.{All, Contains}
use Rattle.std.proofs.lemmas.Bool.{cases_lt}
use Rattle.std.proofs.lemmas.List.{length-take}
use Rattle.px_proof.specs.PlaceLaws.{All-got, slice_get-within}
use Rattle.px_proof_state.specs.Apart.{AreApart}
use Rattle.px_proof_state.specs.Beginnings.{HasItsFacts}
use Rattle.px_question.specs.Answers.{object_terms}
use Rattle.px_question.specs.FewerShapes.{Contains-at, Contains-place}
use Rattle.px_terms.specs.Instances.{IsGround}
use Rattle.px_terms.specs.declared.atom.Atom.{Atom}
use Rattle.px_gaps.specs.Forms.{IsInstanceIn}
use Rattle.px_gaps.proofs.FactLemmas.{ground-same}

take-at : {X : Type 0} (xs : List X) (n k : ℕ) → k < n → slice_get (take n xs) k ≡ slice_get xs k
take-at [] zero k less = absurd (omega (arith, less))
take-at (x ∷ xs) zero k less = absurd (omega (arith, less))
take-at [] (suc n) k less = refl
take-at (x ∷ xs) (suc n) zero less = refl
take-at (x ∷ xs) (suc n) (suc k) less = take-at xs n k (omega (arith, less))

taken-below : {X : Type 0} (xs : List X) (n k : ℕ) (x : X) → slice_get (take n xs) k ≡ Some x → k < n
taken-below xs n k x at = omega (arith, slice_get-within (take n xs) k x at, length-take n xs)

module _ (limit : ℕ) (facts : List Atom) (form : Atom) (first end : ℕ) (has : HasItsFacts facts form first end)
    (all_ground : All IsGround facts) (q : Atom) where
  ground-at : (k : ℕ) → slice_get facts k ≡ Some q → IsGround q
  ground-at k at = All-got IsGround facts k q all_ground at

  apart-none : (k : ℕ) → slice_get facts k ≡ Some q → AreApart form q → ¬ IsInstanceIn limit form q
  apart-none k at are_apart instance =
      are_apart (object_terms instance.0) [] (instance.2 ∙ sym (ground-same [] q (ground-at k at)))

  -- none stands before the first place
  pub none-before : ¬ (Contains (take first facts) q × IsInstanceIn limit form q)
  none-before h =
      let place = Contains-place (take first facts) q h.0 in
      let below = taken-below facts first place.0 q place.1 in
      let at : slice_get facts place.0 ≡ Some q = sym (take-at facts first place.0 below) ∙ place.1 in
      apart-none place.0 at (has.before place.0 q at below (ground-at place.0 at)) h.1

  -- and all stand before the last one
  pub all-taken : (number : ℕ) → end ≤ number → (Contains (take number facts) q × IsInstanceIn limit form q)
      ↔ (Contains facts q × IsInstanceIn limit form q)
  all-taken number past = (
    λ h.
        let place = Contains-place (take number facts) q h.0 in
        let below = taken-below facts number place.0 q place.1 in
        (Contains-at facts place.0 q (sym (take-at facts number place.0 below) ∙ place.1), h.1),
    λ h. let place = Contains-place facts q h.0 in go place.0 place.1 h.1 (cases_lt place.0 number),
  )
    where
      go : (k : ℕ) → slice_get facts k ≡ Some q → IsInstanceIn limit form q → (k < number) ⊎ (number ≤ k)
          → Contains (take number facts) q × IsInstanceIn limit form q
      go k at instance (inl below) = (Contains-at (take number facts) k q (take-at facts number k below ∙ at), instance)
      go k at instance (inr behind) =
          absurd (apart-none k at (has.after k q at (omega (arith, past, behind)) (ground-at k at)) instance)
