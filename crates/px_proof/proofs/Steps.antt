-- A step, where its clause is known.
use Rattle.std.proofs.Common.{◌≡◌, ◌↔◌, ℕ, List, ◌∷◌, slice_get, Some, subst, sym, ◌∙◌, Bool, IsTrue}
use Rattle.px_terms.specs.declared.term.Term.{Term}
use Rattle.px_terms.specs.declared.clause.Lit.{Lit}
use Rattle.px_terms.specs.declared.clause.Clause.{Clause}
use Rattle.px_proof.specs.Derivation.{Derivations, step}
use Rattle.px_base.specs.Answers.{some_same}
use Rattle.px_proof.specs.Proves.{Rules, Proves, ProvesEach, UsesClause, parts_of}

module _ (rules : Rules) (axioms : List Clause) (path : List Lit) (lit : Lit) (number : ℕ) (theta : List Term) (place : ℕ) where
  -- the parts alone decide, where the clause is used rightly
  pub step_exact : (clause : Clause) (parts : Derivations) (answer : Bool) → slice_get axioms number ≡ Some clause
      → ((found : Clause) × UsesClause rules.IsChoice axioms lit number theta place found)
      → (IsTrue answer ↔ ProvesEach rules axioms (lit ∷ path) (parts_of clause.lits theta place) parts)
      → (IsTrue answer ↔ Proves rules axioms path lit (step number theta place parts))
  step_exact clause parts answer at_clause found each = (
    λ holds. (
      clause,
      subst (λ z. UsesClause rules.IsChoice axioms lit number theta place z)
          (some_same (sym found.1.axiom_at ∙ at_clause)) found.1,
      each.0 holds,
    ),
    λ proved. each.1 (subst (λ (z : Clause). ProvesEach rules axioms (lit ∷ path) (parts_of z.lits theta place) parts)
        (some_same (sym proved.1.axiom_at ∙ at_clause)) proved.2),
  )
