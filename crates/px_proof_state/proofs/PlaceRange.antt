-- Attempts at the literals of a clause, one after the other.
use Rattle.std.proofs.Common.{◌≡◌, ℕ, suc, ◌<◌, ◌≤◌, Bool, true, false, length, sym, ◌∙◌}
use Rattle.px_terms.specs.declared.clause.Clause.{Clause}
use Rattle.px_proof.specs.declared.shape.Tick.TheVariants.{Step}
use Rattle.px_proof_state.specs.declared.open.OpenGoal.{OpenGoal}
use Rattle.px_proof_state.specs.States.{ProofStateValue}
use Rattle.px_proof_state.specs.Ranges.{TriesRange}
use Rattle.px_proof_state.specs.Steps.{ClosesByStep}
use Rattle.px_proof_state.specs.Places.{NeverStep, ComesStep}
use Rattle.px_proof_state.proofs.Trying.{never-next, range-found}

module _ (number : ℕ) (clause : Clause) (goal : OpenGoal) (from k : ℕ) (old mid new : ProofStateValue) (found : Bool) (same : mid ≡ old)
    (tried : ClosesByStep mid new (Step number k) goal clause k found) where
  pub step-comes : found ≡ true → from ≤ k → k < length clause.lits → ((j : ℕ) → from ≤ j → j < k → NeverStep clause old goal j)
      → TriesRange (NeverStep clause old goal) (ComesStep number clause old goal) from (length clause.lits) old new true
  step-comes is_found after within never =
      range-found (NeverStep clause old goal) (ComesStep number clause old goal) from (length clause.lits) old new k after within
      (rw (sym same, sym is_found) tried) never

  pub step-never : found ≡ false → (next : ℕ) → next ≡ suc k → ((j : ℕ) → from ≤ j → j < k → NeverStep clause old goal j)
      → (new ≡ old) × ((j : ℕ) → from ≤ j → j < next → NeverStep clause old goal j)
  step-never is_not next is never = (
    tried.unchanged is_not ∙ same,
    rw is (never-next (NeverStep clause old goal) from k never (rw same at (tried.is_match.never is_not))),
  )
