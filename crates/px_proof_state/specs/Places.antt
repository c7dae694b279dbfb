-- Attempts at the literals of a clause.
use Rattle.std.specs.Prelude.{ℕ, true}
use Rattle.px_proof.specs.declared.shape.Tick.TheVariants.{Step}
use Rattle.px_terms.specs.declared.clause.Clause.{Clause}
use Rattle.px_unify.specs.Changes.{variables_of}
use Rattle.px_proof_state.specs.declared.open.OpenGoal.{OpenGoal}
use Rattle.px_proof_state.specs.Ranges.{NeverEqual}
use Rattle.px_proof_state.specs.States.{ProofStateValue}
use Rattle.px_proof_state.specs.Steps.{ClosesByStep, new_literal}

-- the literal at the place, with new variables, is never equal to the goal
abbrev pub NeverStep : Clause → ProofStateValue → OpenGoal → ℕ → Type 0
NeverStep clause old goal place = NeverEqual old goal.lit (new_literal (variables_of old.changes) clause place)

-- the literal at the place closes the goal
abbrev pub ComesStep : ℕ → Clause → ProofStateValue → OpenGoal → ℕ → ProofStateValue → Type 0
ComesStep number clause old goal place new = ClosesByStep old new (Step number place) goal clause place true
