-- Attempts at the literals above a goal.
use Rattle.std.specs.Prelude.{◌≡◌, ℕ, ◌≤◌, Bool, true, false, Some, List, slice_get}
use Rattle.px_proof.specs.Literals.{complement_of}
use Rattle.px_proof.specs.declared.shape.Tick.TheVariants.{Anc}
use Rattle.px_terms.specs.declared.clause.Lit.{Lit}
use Rattle.px_proof_state.specs.declared.open.OpenGoal.{OpenGoal}
use Rattle.px_proof_state.specs.Matches.{ClosesBy}
use Rattle.px_proof_state.specs.Ranges.{NeverEqual}
use Rattle.px_proof_state.specs.States.{ProofStateValue}

pub record TriesAncestor (old new : ProofStateValue) (number : ℕ) (above : Lit) (goal : OpenGoal) (from : ℕ) (found : Bool) : Type 0 where
  pub comes : found ≡ true → (from ≤ number) × ClosesBy old new (Anc number) goal.lit (complement_of above) goal.next true
  pub never : found ≡ false → (new ≡ old) × (from ≤ number → NeverEqual old goal.lit (complement_of above))

-- the complement of the ancestor of that number is never equal to the goal
abbrev pub NeverAncestor : List Lit → ProofStateValue → OpenGoal → ℕ → Type 0
NeverAncestor path old goal number = (above : Lit) → slice_get path number ≡ Some above → NeverEqual old goal.lit (complement_of above)

-- the complement of the ancestor of that number closes the goal
abbrev pub ComesAncestor : List Lit → ProofStateValue → OpenGoal → ℕ → ProofStateValue → Type 0
ComesAncestor path old goal number new = (above : Lit) × (slice_get path number ≡ Some above)
    × ClosesBy old new (Anc number) goal.lit (complement_of above) goal.next true
