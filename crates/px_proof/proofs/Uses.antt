-- The clauses of an arena, and their use.
use Rattle.std.proofs.Common.{◌≡◌, ◌↔◌, ℕ, ◌<◌, List, [], length, get_or, slice_get, Some, ◌∙◌, sym, ap, subst, Bool, IsTrue}
use Rattle.std.specs.Prelude.{All}
use Rattle.std.proofs.lemmas.List.{length-map}
use Rattle.px_terms.specs.Clauses.{IsArena, ArePlainBelow}
use Rattle.px_terms.specs.declared.term.Term.{Term}
use Rattle.px_terms.specs.declared.clause.Lit.{Lit}
use Rattle.px_terms.specs.declared.clause.Clause.{Clause}
use Rattle.px_proof.specs.Proves.{UsesClause, instance_of}
use Rattle.px_base.specs.Answers.{some_same}
use Rattle.px_proof.specs.PlaceLaws.{slice_get-read, slice_get-within}

abbrev pub no_clause : Clause
no_clause = record { variable_count = 0; lits = [] }

abbrev pub clause_at : List Clause → ℕ → Clause
clause_at axioms number = get_or axioms number no_clause

-- the literals of an arena's clause are plain below its variables
pub plain_lits : (axioms : List Clause) (number : ℕ) (theta : List Term) (lits : List Lit) → IsArena axioms → number < length axioms
    → length theta ≡ (clause_at axioms number).variable_count
    → lits ≡ (clause_at axioms number).lits → ArePlainBelow (length theta) lits
plain_lits axioms number theta lits arena below same is =
    subst (λ n. ArePlainBelow n lits) (sym same) (subst (λ ls. ArePlainBelow (clause_at axioms number).variable_count ls) (sym is)
    (arena.each number no_clause below).plain)

module _ (IsChoice : Term → Type 0) (axioms : List Clause) (lit : Lit) (number : ℕ) (theta : List Term) (place : ℕ) where
  clause_is : (clause : Clause) → slice_get axioms number ≡ Some clause → clause ≡ clause_at axioms number
  clause_is clause at = some_same (sym at ∙ slice_get-read axioms number no_clause (slice_get-within axioms number clause at))

  -- what remains to be tested where the number and the length are right
  pub uses_exact : (answer : Bool) (lits : List Lit) → number < length axioms → length theta ≡ (clause_at axioms number).variable_count
      → All IsChoice theta → lits ≡ (clause_at axioms number).lits
      → (IsTrue answer ↔ (slice_get (instance_of lits theta) place ≡ Some lit))
      → (IsTrue answer ↔ ((clause : Clause) × UsesClause IsChoice axioms lit number theta place clause))
  uses_exact answer lits below same choices is exact = (
    λ holds. (
      clause_at axioms number,
      record {
        axiom_at = slice_get-read axioms number no_clause below;
        terms = same;
        choices = choices;
        literal_at = ap (λ ls. slice_get (instance_of ls theta) place) (sym is) ∙ exact.0 holds;
      },
    ),
    λ uses. exact.1 (ap (λ ls. slice_get (instance_of ls theta) place)
        (is ∙ ap (λ (c : Clause). c.lits) (sym (clause_is uses.0 uses.1.axiom_at))) ∙ uses.1.literal_at),
  )

  -- the number, the length and the terms are right where the clause is used
  pub uses_number : (clause : Clause) → UsesClause IsChoice axioms lit number theta place clause → number < length axioms
  uses_number clause uses = slice_get-within axioms number clause uses.axiom_at

  pub uses_length : (clause : Clause) → UsesClause IsChoice axioms lit number theta place clause
      → length theta ≡ (clause_at axioms number).variable_count
  uses_length clause uses = uses.terms ∙ ap (λ (c : Clause). c.variable_count) (clause_is clause uses.axiom_at)

  pub uses_place : (clause : Clause) → UsesClause IsChoice axioms lit number theta place clause
      → place < length (clause_at axioms number).lits
  uses_place clause uses =
      let within = slice_get-within (instance_of clause.lits theta) place lit uses.literal_at in
      subst (λ (c : Clause). place < length c.lits) (clause_is clause uses.axiom_at) (rw length-map at within)

  pub uses_at : (clause : Clause) → UsesClause IsChoice axioms lit number theta place clause
      → slice_get axioms number ≡ Some (clause_at axioms number)
  uses_at clause uses = slice_get-read axioms number no_clause (uses_number clause uses)
