-- What a closing does to the bindings and to the state.
use Rattle.std.specs.Prelude.{◌≡◌, ℕ, Bool, true, false, List, ◌∷◌, length}
use Rattle.px_proof.specs.Literals.{substitute_literal}
use Rattle.px_proof.specs.declared.shape.Tick.{Tick}
use Rattle.px_terms.specs.declared.term.Term.{Term}
use Rattle.px_terms.specs.declared.clause.Lit.{Lit}
use Rattle.px_unify.specs.declared.change.Change.{Change}
use Rattle.px_unify.specs.Changes.{Binds, HasSolutions, NarrowedBy, NoneFits}
use Rattle.px_proof_state.specs.declared.open.Choice.{Choice}
use Rattle.px_proof_state.specs.States.{ProofStateValue}

-- the substitution makes the two literals equal
abbrev pub MakesSame : Lit → Lit → List Term → Type 0
MakesSame a b sigma = substitute_literal sigma a ≡ substitute_literal sigma b

-- the substitutions that fit are those that fitted and make the literals equal; or no substitution does both, and nothing changes
pub record IsMatch (old new : List Change) (a b : Lit) (found : Bool) : Type 0 where
  pub agree : found ≡ true → NarrowedBy old new (MakesSame a b)
  pub grows : found ≡ true → Binds old new
  pub solvable : found ≡ true → HasSolutions new
  pub never : found ≡ false → NoneFits old (MakesSame a b)
  pub same : found ≡ false → new ≡ old

-- the choice that closes the first goal by the tick
abbrev pub choice_by : Tick → ProofStateValue → Choice
choice_by tick old = record { tick = tick; mark = length old.changes; goals = length old.goals; first = old.first }

-- the first goal is closed, and the goal at the next place comes first
abbrev pub closed_by : ProofStateValue → List Change → Tick → ℕ → ProofStateValue
closed_by old changes tick next = record { changes = changes; goals = old.goals; first = next; choices = choice_by tick old ∷ old.choices }

pub record ClosesBy (old new : ProofStateValue) (tick : Tick) (goal lit : Lit) (next : ℕ) (found : Bool) : Type 0 where
  pub is_match : IsMatch old.changes new.changes goal lit found
  pub pushed : found ≡ true → new ≡ closed_by old new.changes tick next
  pub unchanged : found ≡ false → new ≡ old
