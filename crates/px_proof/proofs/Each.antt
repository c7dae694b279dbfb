-- Several goals, proved in order.
use Rattle.std.proofs.Common.{◌≡◌, ◌↔◌, ℕ, zero, suc, ◌+◌, List, [], ◌∷◌, length, slice_get, drop, refl, ap, Some, add-one}
use Rattle.px_terms.specs.declared.clause.Lit.{Lit}
use Rattle.px_terms.specs.declared.clause.Clause.{Clause}
use Rattle.px_proof.specs.Derivation.{Derivation, derivations}
use Rattle.px_proof.specs.Proves.{Rules, Proves, ProvesEach}

module _ (rules : Rules) (axioms : List Clause) (path : List Lit) where
  -- there is one derivation for each goal
  pub length_each : (goals : List Lit) (ps : List Derivation) → ProvesEach rules axioms path goals (derivations ps)
      → length ps ≡ length goals
  length_each [] [] each = refl
  length_each [] (p ∷ ps) each = absurd each
  length_each (goal ∷ goals) [] each = absurd each
  length_each (goal ∷ goals) (p ∷ ps) each = ap suc (length_each goals ps each.1)

  -- the goals from k on are the goal at k and those after it
  pub each_from : (goals : List Lit) (ps : List Derivation) (k : ℕ) (goal : Lit) (p : Derivation) → slice_get goals k ≡ Some goal
      → slice_get ps k ≡ Some p
      → ProvesEach rules axioms path (drop k goals) (derivations (drop k ps))
      ↔ (Proves rules axioms path goal p × ProvesEach rules axioms path (drop (suc k) goals) (derivations (drop (suc k) ps)))
  each_from [] ps k goal p at_goal at_p = absurd (cc)
  each_from (g ∷ goals) [] k goal p at_goal at_p = absurd (cc)
  each_from (g ∷ goals) (q ∷ ps) zero goal p at_goal at_p =
      let same_goal : g ≡ goal = cc in
      let same_p : q ≡ p = cc in
      rw (same_goal, same_p) (λ h. h, λ h. h)
  each_from (g ∷ goals) (q ∷ ps) (suc k) goal p at_goal at_p = each_from goals ps k goal p at_goal at_p

  -- where the goal at k has no proof, no more have all of them
  pub each_fails : {W : Type 0} (goals : List Lit) (ps : List Derivation) (k : ℕ) (goal : Lit) (p : Derivation)
      → slice_get goals k ≡ Some goal → slice_get ps k ≡ Some p
      → (ProvesEach rules axioms path (drop k goals) (derivations (drop k ps)) ↔ W) → (¬ Proves rules axioms path goal p) → ¬ W
  each_fails goals ps k goal p at_goal at_p same fails whole = fails ((each_from goals ps k goal p at_goal at_p).0 (same.1 whole)).0

  -- where it has one, those after it are left
  pub each_goes_on : {W : Type 0} (goals : List Lit) (ps : List Derivation) (k : ℕ) (goal : Lit) (p : Derivation)
      → slice_get goals k ≡ Some goal → slice_get ps k ≡ Some p
      → (ProvesEach rules axioms path (drop k goals) (derivations (drop k ps)) ↔ W) → Proves rules axioms path goal p
      → (ProvesEach rules axioms path (drop (k + 1) goals) (derivations (drop (k + 1) ps)) ↔ W)
  each_goes_on goals ps k goal p at_goal at_p same here =
      let split = each_from goals ps k goal p at_goal at_p in
      rw add-one (λ rest. same.0 (split.1 (here, rest)), λ whole. (split.0 (same.1 whole)).1)
