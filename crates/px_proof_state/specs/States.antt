-- What contracts see of the prover's state, and what each change of it does.
use Rattle.std.specs.Prelude.{◌≡◌, ◌↔◌, Some, ℕ, ◌≤◌, Bool, List, [], ◌∷◌, length, replicate, take, map}
use Rattle.px_proof.specs.declared.shape.Tick.{Tick}
use Rattle.px_proof.specs.Literals.{positive_of}
use Rattle.px_terms.specs.declared.term.Term.{Term}
use Rattle.px_terms.specs.declared.atom.Atom.{Atom}
use Rattle.px_unify.specs.declared.change.Change.{Change}
use Rattle.px_unify.specs.declared.change.Change.TheVariants.{Fresh}
use Rattle.px_unify.specs.Changes.{Fits, HasSolutions, variables_of}
use Rattle.px_question.specs.Settings.{Setting}
use Rattle.px_proof_walk.specs.Pending.{open_after, Solves, goals_of}
use Rattle.px_proof_state.specs.Arena.{goals_at, AreOlder}
use Rattle.px_proof_state.specs.Parts.{goals_under}
use Rattle.px_proof_state.specs.declared.open.OpenGoal.{OpenGoal}
use Rattle.px_proof_state.specs.declared.open.Choice.{Choice}

-- the changes of the bindings, the arena of goals, the place of the first open one, and the choices, the last first
pub record ProofStateValue : Type 0 where
  pub changes : List Change
  pub goals : List OpenGoal
  pub first : ℕ
  pub choices : List Choice

-- nothing is closed; a place for each atom of the formula is open, with no literal above it, and no variable is bound
pub record IsOpening (formula : List Atom) (variable_count height : ℕ) (v : ProofStateValue) : Type 0 where
  pub variables : v.changes ≡ replicate variable_count Fresh
  pub solvable : HasSolutions v.changes
  pub opened : goals_at v.goals v.first ≡ goals_under [] height (map positive_of formula)
  pub arena : AreOlder v.goals
  pub within : v.first ≤ length v.goals
  pub choices : v.choices ≡ []

-- the marks of the last choice lie within the lists
abbrev pub CanRetract : ProofStateValue → Type 0
CanRetract v = go v.choices
  where
    go : List Choice → Type 0
    go [] = Unit {0}
    go (c ∷ choices) = (c.mark ≤ length v.changes) × (c.goals ≤ length v.goals)

-- the last choice is taken back
abbrev pub retracted : ProofStateValue → Choice → List Choice → ProofStateValue
retracted v choice choices = record {
  changes = take choice.mark v.changes;
  goals = take choice.goals v.goals;
  first = choice.first;
  choices = choices;
}

-- the state is that after the ticks: what is open, and which substitutions fit
pub record Stands (loose : Bool) (s : Setting) (formula : List Atom) (variable_count : ℕ) (ticks : List Tick) (v : ProofStateValue) : Type 0 where
  pub pending : open_after loose s variable_count (goals_of s formula) ticks ≡ Some
      (record { variables = variables_of v.changes; goals = goals_at v.goals v.first })
  pub matched : (tau : List Term) → Fits tau v.changes ↔ Solves loose s tau variable_count (goals_of s formula) ticks
