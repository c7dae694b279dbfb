-- Whether two instances are the same.
use Rattle.std.proofs.Common.{◌≡◌, ◌⊎◌, refl, inl, inr, true, false}
use Rattle.px_terms.specs.declared.instance.OpInst.{OpInst}
use Rattle.px_terms.specs.Order.{instance_eq}
use Rattle.px_terms.specs.OrderLaws.{instance_eq-decides}
use Rattle.px_base.specs.Answers.{both_answers}

pub same_or_not : (a b : OpInst) → (a ≡ b) ⊎ (¬ (a ≡ b))
same_or_not a b = elim (instance_eq a b) as (λ t. instance_eq a b ≡ t → (a ≡ b) ⊎ (¬ (a ≡ b))) [
  | true ↦ λ yes'. inl ((instance_eq-decides a b).0 yes')
  | false ↦ λ no'. inr (λ same. both_answers (instance_eq a b) no' ((instance_eq-decides a b).1 same))
] refl
