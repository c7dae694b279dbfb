-- A proof at the front of bytes, by its letter.
use Rattle.std.proofs.Common.{◌≡◌, ◌<◌, ◌-◌, ℕ, zero, suc, List, Option, Some, None, refl, ap, ◌∙◌, arith}
use Rattle.std.specs.Prelude.{codes}
use Rattle.px_cert.specs.declared.draft.Draft.{Draft}
use Rattle.px_cert.specs.Reading.{after_text, ancestor_at, chosen, fact_at, proof_at, step_at}

pub no_level : (d : Draft) (levels : ℕ) (bytes : List ℕ) → levels ≡ 0 → proof_at d levels bytes ≡ None
unfolding proof_at
no_level d zero bytes none = refl
no_level d (suc levels) bytes none = absurd (omega (arith, none))

level_is : (d : Draft) (levels : ℕ) (bytes : List ℕ) → 0 < levels
    → proof_at d levels bytes
    ≡ chosen (after_text (codes " f") bytes) (fact_at d)
    (chosen (after_text (codes " a") bytes) ancestor_at
    (chosen (after_text (codes " s") bytes) (step_at d (proof_at d (levels - 1))) None))
unfolding proof_at
level_is d zero bytes some = absurd (omega (arith, some))
level_is d (suc levels) bytes some =
    let same : levels ≡ suc levels - 1 = omega arith in
    ap (λ (k : ℕ). chosen (after_text (codes " f") bytes) (fact_at d)
    (chosen (after_text (codes " a") bytes) ancestor_at (chosen (after_text (codes " s") bytes) (step_at d (proof_at d k)) None))) same

module _ (d : Draft) (levels : ℕ) (bytes : List ℕ) (some : 0 < levels) where
  pub fact_here : (rest : List ℕ) → after_text (codes " f") bytes ≡ Some rest → proof_at d levels bytes ≡ fact_at d rest
  fact_here rest f =
      level_is d levels bytes some
      ∙ ap (λ (o : Option (List ℕ)). chosen o (fact_at d) (chosen (after_text (codes " a") bytes) ancestor_at
      (chosen (after_text (codes " s") bytes) (step_at d (proof_at d (levels - 1))) None))) f

  pub ancestor_here : (rest : List ℕ) → after_text (codes " f") bytes ≡ None → after_text (codes " a") bytes ≡ Some rest
      → proof_at d levels bytes ≡ ancestor_at rest
  ancestor_here rest f a =
      level_is d levels bytes some
      ∙ (λ i. chosen (f i) (fact_at d) (chosen (a i) ancestor_at
      (chosen (after_text (codes " s") bytes) (step_at d (proof_at d (levels - 1))) None)))

  pub step_here : (rest : List ℕ) → after_text (codes " f") bytes ≡ None → after_text (codes " a") bytes ≡ None
      → after_text (codes " s") bytes ≡ Some rest → proof_at d levels bytes ≡ step_at d (proof_at d (levels - 1)) rest
  step_here rest f a s =
      level_is d levels bytes some
      ∙ (λ i. chosen (f i) (fact_at d) (chosen (a i) ancestor_at (chosen (s i) (step_at d (proof_at d (levels - 1))) None)))

  pub nothing_here : after_text (codes " f") bytes ≡ None → after_text (codes " a") bytes ≡ None → after_text (codes " s") bytes ≡ None
      → proof_at d levels bytes ≡ None
  nothing_here f a s =
      level_is d levels bytes some
      ∙ (λ i. chosen (f i) (fact_at d) (chosen (a i) ancestor_at (chosen (s i) (step_at d (proof_at d (levels - 1))) None)))
