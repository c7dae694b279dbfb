-- Attempts at the axioms, one after the other.
use Rattle.std.proofs.Common.{◌≡◌, ℕ, suc, ◌<◌, ◌≤◌, Bool, true, false, Some, List, length, get_or, slice_get, refl, sym, ◌∙◌, arith, inl, inr}
use Rattle.std.specs.Prelude.{All}
use Rattle.std.proofs.lemmas.Bool.{cases_lt}
use Rattle.px_terms.specs.declared.clause.Clause.{Clause}
use Rattle.px_proof_state.specs.declared.open.OpenGoal.{OpenGoal}
use Rattle.px_proof_state.specs.States.{ProofStateValue}
use Rattle.px_proof_state.specs.Ranges.{TriesRange}
use Rattle.px_proof_state.specs.Places.{NeverStep, ComesStep}
use Rattle.px_proof_state.specs.Axioms.{HasBudget, IsFit, IsFrom, NeverClause, TriesClause, NeverAxiom, ComesAxiom}
use Rattle.px_base.specs.Answers.{some_same}
use Rattle.px_proof.specs.PlaceLaws.{All-got, slice_get-read}
use Rattle.px_proof_state.proofs.Trying.{never-next, range-found}

-- where there is room, trying the clause is trying its places
pub with_room : (number : ℕ) (clause : Clause) (goal : OpenGoal) (from : ℕ) (old new : ProofStateValue) (found : Bool)
    → HasBudget goal clause.lits
    → TriesRange (NeverStep clause old goal) (ComesStep number clause old goal) from (length clause.lits) old new found
    → TriesClause number clause goal from old new found
with_room number clause goal from old new found room tried = record {
  least =
      λ is_found. let first =
      tried.least is_found in (first.0, first.1, first.2, (room, first.3), λ j after before has. first.4 j after before);
  no_more = λ is_not. let none = tried.no_more is_not in (none.0, λ j after within has. none.1 j after within);
}

-- the place to begin with is one
same_start : (number from place a b : ℕ) → IsFrom number from place a → IsFrom number from place b → a ≡ b
same_start number from place a b h k = elim (cases_lt number from) [
  | inl less ↦ apart (λ e. omega (arith, e, less))
  | inr past ↦ elim (cases_lt from number) [
    | inl more ↦ apart (λ e. omega (arith, e, more))
    | inr upto ↦ let e : number ≡ from = omega (arith, past, upto) in h.here e ∙ sym (k.here e)
  ]
]
  where
    apart : ¬ (number ≡ from) → a ≡ b
    apart other = h.later other ∙ sym (k.later other)

module _ (axioms : List Clause) (goal : OpenGoal) (from place k : ℕ) (clause : Clause) (old mid new : ProofStateValue) (start : ℕ)
    (found : Bool) (is : slice_get axioms k ≡ Some clause) (begins : IsFrom k from place start) (same : mid ≡ old)
    (tried : TriesClause k clause goal start mid new found) where
  pub axiom-comes : found ≡ true → from ≤ k → k < length axioms → ((j : ℕ) → from ≤ j → j < k → NeverAxiom axioms old goal from place j)
      → TriesRange (NeverAxiom axioms old goal from place) (ComesAxiom axioms old goal from place) from (length axioms) old new true
  axiom-comes is_found after within never =
      range-found (NeverAxiom axioms old goal from place) (ComesAxiom axioms old goal from place) from
      (length axioms) old new k after within (clause, is, (start, begins, rw (sym same, sym is_found) tried)) never

  pub axiom-never : found ≡ false → (next : ℕ) → next ≡ suc k → ((j : ℕ) → from ≤ j → j < k → NeverAxiom axioms old goal from place j)
      → (new ≡ old) × ((j : ℕ) → from ≤ j → j < next → NeverAxiom axioms old goal from place j)
  axiom-never is_not next next_is never =
      let none = tried.no_more is_not in
      let places : (p : ℕ) → start ≤ p → p < length clause.lits → NeverClause clause old goal p = rw same at none.1 in (
        none.0 ∙ same,
        rw next_is (never-next (NeverAxiom axioms old goal from place) from k never
            (λ other other_is other_start other_begins p after within.
            let e : clause ≡ other = some_same (sym is ∙ other_is) in
            let f : other_start ≡ start = same_start k from place other_start start other_begins begins in
            (rw e at places) p (rw (sym f) after) within)),
      )

-- the axiom of that number, by its parts
pub axiom-at : (axioms : List Clause) (k : ℕ) (clause : Clause) → k < length axioms
    → ((d : Clause) → clause.variable_count ≡ (get_or axioms k d).variable_count) → ((d : Clause) → clause.lits ≡ (get_or axioms k d).lits)
    → slice_get axioms k ≡ Some clause
axiom-at axioms k clause within variable_count lits =
    slice_get-read axioms k clause within ∙ (λ i. Some (record { variable_count = sym (variable_count clause) i; lits = sym (lits clause) i }))

pub fit-at : (variables : ℕ) (axioms : List Clause) (k : ℕ) (clause : Clause) → slice_get axioms k ≡ Some clause
    → All (IsFit variables) axioms → IsFit variables clause
fit-at variables axioms k clause at all = All-got (IsFit variables) axioms k clause all at
