-- What holds of the prover's state at each moment of a walk.
use Rattle.std.specs.Prelude.{ℕ, ◌+◌, ◌*◌, ◌<◌, ◌≤◌, Bool, List, [], ◌∷◌, ◌++◌, length, take, All}
use Rattle.std.specs.List.{AllByRecursion}
use Rattle.px_base.specs.Bounds.{u32_max}
use Rattle.px_proof.specs.declared.shape.Tick.{Tick}
use Rattle.px_question.specs.Settings.{Setting}
use Rattle.px_proof_state.specs.Arena.{AreOlder}
use Rattle.px_proof_state.specs.States.{ProofStateValue, Stands}
use Rattle.px_proof_state.specs.declared.open.Choice.{Choice}
use Rattle.px_proof_state.specs.declared.open.OpenGoal.{OpenGoal}
use Rattle.px_prover.specs.Limits.{most_gap_variables}
use Rattle.px_terms.specs.AtomSets.{IsAtomSet}
use Rattle.px_terms.specs.Limits.{most_formula_variables, most_shapes}
use Rattle.px_terms.specs.declared.atom.Atom.{Atom}
use Rattle.px_terms.specs.declared.clause.Clause.{Clause}
use Rattle.px_unify.specs.declared.change.Change.{Change}
use Rattle.px_unify.specs.Changes.{HasSolutions, variables_of}
use Rattle.px_proof_walk.proofs.Objects.{FactIsIn}
use Rattle.px_proof_walk.specs.Possible.{IsClosing}
use Rattle.px_proof_walk.specs.Scope.{IsSetting, IsAtomIn}

-- the ticks of the choices, which stand last first
abbrev pub ticks_in : List Choice → List Tick
ticks_in [] = []
ticks_in (c ∷ rest) = ticks_in rest ++ c.tick ∷ []

-- what a walk relies on: the formula's objects and variables are in range, and so are the numbers of the problem and the model
pub record IsProperQuestion (s : Setting) (formula : List Atom) (variable_count : ℕ) : Type 0 where
  pub setting : IsSetting s
  pub scope : AllByRecursion (IsAtomIn s.objects variable_count) formula
  pub some_object : 0 < variable_count → 0 < s.objects
  pub clauses : All (λ (clause : Clause). clause.variable_count ≤ most_formula_variables) s.axioms
  pub ascending : IsAtomSet s.facts
  pub short : length s.facts ≤ u32_max
  pub few_variables : variable_count ≤ most_gap_variables
  pub few_ticks : s.limit ≤ most_shapes

-- the state is that after its ticks, which close places, by facts over the objects; its goals name older ones; its bindings can be met
pub record IsSound (loose : Bool) (s : Setting) (formula : List Atom) (variable_count : ℕ) (ticks : List Tick) (v : ProofStateValue) : Type 0 where
  pub stands : Stands loose s formula variable_count ticks v
  pub facts_in : AllByRecursion (FactIsIn s) ticks
  pub closing : AllByRecursion IsClosing ticks
  pub arena : AreOlder v.goals
  pub within : v.first ≤ length v.goals
  pub solvable : HasSolutions v.changes
  pub few : variables_of v.changes ≤ variable_count + most_formula_variables * length ticks

-- it is sound, and so is each state before, which the marks of the choices give back
abbrev pub WasSound : Bool → Setting → List Atom → ℕ → List Choice → List Change → List OpenGoal → ℕ → Type 0
WasSound loose s formula variable_count [] changes goals first = IsSound loose s formula variable_count []
    (record { changes = changes; goals = goals; first = first; choices = [] })
WasSound loose s formula variable_count (c ∷ rest) changes goals first =
    IsSound loose s formula variable_count (ticks_in (c ∷ rest)) (record { changes = changes; goals = goals; first = first; choices = c ∷ rest })
    × (c.mark ≤ length changes) × (c.goals ≤ length goals)
    × WasSound loose s formula variable_count rest (take c.mark changes) (take c.goals goals) c.first

-- the state is one of the question
pub record IsStanding (loose : Bool) (s : Setting) (formula : List Atom) (variable_count : ℕ) (v : ProofStateValue) : Type 0 where
  pub asked : IsProperQuestion s formula variable_count
  pub was : WasSound loose s formula variable_count v.choices v.changes v.goals v.first
