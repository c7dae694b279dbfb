-- Attempts one after the other, over a range of numbers.
use Rattle.std.specs.Prelude.{◌≡◌, ℕ, ◌<◌, ◌≤◌, Bool, true, false, Some, List, slice_get, All}
use Rattle.px_proof.specs.Literals.{positive_of}
use Rattle.px_proof.specs.declared.shape.Tick.TheVariants.{Fact}
use Rattle.px_terms.specs.declared.atom.Atom.{Atom}
use Rattle.px_terms.specs.declared.clause.Lit.{Lit}
use Rattle.px_unify.specs.Changes.{NoneFits}
use Rattle.px_terms.specs.Language.{IsObjectBelow}
use Rattle.px_proof_state.specs.declared.open.OpenGoal.{OpenGoal}
use Rattle.px_proof_state.specs.Matches.{ClosesBy, MakesSame}
use Rattle.px_proof_state.specs.States.{ProofStateValue}

-- the first number at which something comes, and what never comes before it; or nothing comes, and nothing changes
pub record TriesRange (Never : ℕ → Type 0) (Comes : ℕ → ProofStateValue → Type 0) (from to : ℕ) (old new : ProofStateValue) (found : Bool) :
    Type 0 where
  pub least : found ≡ true → (k : ℕ) × (from ≤ k) × (k < to) × Comes k new × ((j : ℕ) → from ≤ j → j < k → Never j)
  pub no_more : found ≡ false → (new ≡ old) × ((j : ℕ) → from ≤ j → j < to → Never j)

-- no substitution that fits makes the literals equal
abbrev pub NeverEqual : ProofStateValue → Lit → Lit → Type 0
NeverEqual old goal lit = NoneFits old.changes (MakesSame goal lit)

pub record TriesFact (old new : ProofStateValue) (objects number : ℕ) (fact : Atom) (goal : OpenGoal) (found : Bool) : Type 0 where
  pub comes : found ≡ true → All (IsObjectBelow objects) fact.args
      × ClosesBy old new (Fact number) goal.lit (positive_of fact) goal.next true
  pub never : found ≡ false → (new ≡ old) × (All (IsObjectBelow objects) fact.args → NeverEqual old goal.lit (positive_of fact))

-- the fact of that number isn't over the objects, or is never equal to the goal
abbrev pub NeverFact : ℕ → List Atom → ProofStateValue → OpenGoal → ℕ → Type 0
NeverFact objects facts old goal number =
    (fact : Atom) → slice_get facts number ≡ Some fact → All (IsObjectBelow objects) fact.args → NeverEqual old goal.lit (positive_of fact)

-- the fact of that number is over the objects, and closes the goal
abbrev pub ComesFact : ℕ → List Atom → ProofStateValue → OpenGoal → ℕ → ProofStateValue → Type 0
ComesFact objects facts old goal number new =
    (fact : Atom) × (slice_get facts number ≡ Some fact) × All (IsObjectBelow objects) fact.args
    × ClosesBy old new (Fact number) goal.lit (positive_of fact) goal.next true
