-- What the replay of a proof starts from, and what it leaves.
use Rattle.std.specs.Prelude.{◌≡◌, ◌<◌, ℕ, List, [], ◌∷◌, All, flat_map, length}
use Rattle.std.specs.List.{AllZip}
use Rattle.px_terms.specs.declared.instance.OpInst.{OpInst}
use Rattle.px_terms.specs.declared.problem.Problem.{Problem}
use Rattle.px_terms.specs.Operators.{precondition, schema_of}
use Rattle.px_proof.specs.Literals.{positive_of}
use Rattle.px_replay.specs.Opened.{row_pairs, rows_pairs}
use Rattle.px_terms.specs.Clauses.{ArePlainBelow}
use Rattle.px_terms.specs.declared.atom.Atom.{Atom}
use Rattle.px_terms.specs.declared.clause.Clause.{Clause}
use Rattle.px_terms.specs.declared.clause.Lit.{Lit}
use Rattle.px_terms.specs.declared.term.Term.{Term}
use Rattle.px_terms.specs.Language.{IsPlainBelow}
use Rattle.px_unify.specs.declared.change.Change.{Change}
use Rattle.px_unify.specs.Changes.{Binds, Fits, HasSolutions, MakesEachEqual, NarrowedBy, variables_of}
use Rattle.px_proof.specs.Derivation.{Derivation, Derivations, terms_of, all_terms_of}
use Rattle.px_replay.specs.Replay.{HasForm, HaveForms, pairs_of, all_pairs_of}

-- the proof has the form of a proof of the literal, all variables are the bindings', and something that fits them makes its pairs equal
pub record CanReplay (axioms : List Clause) (path : List Lit) (lit : Lit) (d : Derivation) (changes : List Change) : Type 0 where
  pub form : HasForm axioms path lit d
  pub path_below : ArePlainBelow (variables_of changes) path
  pub lit_below : All (IsPlainBelow (variables_of changes)) lit.atom.args
  pub terms_below : All (IsPlainBelow (variables_of changes)) (terms_of d)
  pub solved : (sigma : List Term) × Fits sigma changes × MakesEachEqual (pairs_of axioms path lit d) sigma

-- the proofs have the forms of proofs of the literals, one each, all variables are the bindings', and something that fits makes
-- their pairs equal
pub record CanReplayEach (axioms : List Clause) (path lits : List Lit) (ds : Derivations) (changes : List Change) : Type 0 where
  pub forms : HaveForms axioms path lits ds
  pub path_below : ArePlainBelow (variables_of changes) path
  pub lits_below : ArePlainBelow (variables_of changes) lits
  pub terms_below : All (IsPlainBelow (variables_of changes)) (all_terms_of ds)
  pub solved : (sigma : List Term) × Fits sigma changes × MakesEachEqual (all_pairs_of axioms path lits ds) sigma
  pub solvable : HasSolutions changes

-- a substitution fits the new bindings exactly where it fitted the old ones and makes the pairs equal
pub record IsReplayOf (old new : List Change) (pairs : List (Atom × Atom)) : Type 0 where
  pub narrowed : NarrowedBy old new (MakesEachEqual pairs)
  pub grows : Binds old new
  pub solvable : HasSolutions new

-- ---- rows

abbrev pub ArePlainAtoms : ℕ → List Atom → Type 0
ArePlainAtoms n atoms = All (λ atom. All (IsPlainBelow n) atom.args) atoms

-- the proofs have the forms of proofs of the atoms
abbrev pub RowForms : List Clause → List Atom → List Derivation → Type 0
RowForms axioms atoms row = AllZip (λ atom d. HasForm axioms [] (positive_of atom) d) atoms row

-- row by row, the proofs have the forms of proofs of each step's precondition, and at the end of the goal
abbrev pub PlanForms : Problem → List OpInst → List Atom → List (List Derivation) → Type 0
PlanForms problem [] goal [] = ⊥
PlanForms problem [] goal (row ∷ []) = RowForms problem.axioms goal row
PlanForms problem [] goal (row ∷ second ∷ rows) = ⊥
PlanForms problem (inst ∷ steps) goal [] = ⊥
PlanForms problem (inst ∷ steps) goal (row ∷ rows) = RowForms problem.axioms (precondition problem inst) row
    × PlanForms problem steps goal rows

pub record CanReplayRow (axioms : List Clause) (atoms : List Atom) (row : List Derivation) (changes : List Change) : Type 0 where
  pub forms : RowForms axioms atoms row
  pub atoms_below : ArePlainAtoms (variables_of changes) atoms
  pub terms_below : All (IsPlainBelow (variables_of changes)) (flat_map terms_of row)
  pub solved : (sigma : List Term) × Fits sigma changes × MakesEachEqual (row_pairs axioms atoms row) sigma
  pub solvable : HasSolutions changes

pub record CanReplayRows (problem : Problem) (steps : List OpInst) (goal : List Atom) (rows : List (List Derivation))
    (changes : List Change) : Type 0 where
  pub forms : PlanForms problem steps goal rows
  pub needs_below : All (λ inst. ArePlainAtoms (variables_of changes) (precondition problem inst)) steps
  pub goal_below : ArePlainAtoms (variables_of changes) goal
  pub terms_below : All (IsPlainBelow (variables_of changes)) (flat_map (flat_map terms_of) rows)
  pub solved : (sigma : List Term) × Fits sigma changes × MakesEachEqual (rows_pairs problem steps goal rows) sigma
  pub solvable : HasSolutions changes

-- the instance is one of an operator of the problem, with a term for each parameter
pub record HasSchema (problem : Problem) (inst : OpInst) : Type 0 where
  pub op : inst.op < length problem.schemas
  pub count : length inst.args ≡ (schema_of problem inst).params
