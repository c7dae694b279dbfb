-- What the bindings of a finished state give.
use Rattle.std.specs.Prelude.{◌≡◌, ◌↔◌, ℕ, ◌<◌, List, ◌⊎◌, true, All, length, slice_get, Some, Contains}
use Rattle.px_proof.specs.declared.shape.Tick.{Tick}
use Rattle.px_question.specs.Settings.{Setting}
use Rattle.px_terms.specs.Language.{IsVariableBelow}
use Rattle.px_terms.specs.declared.atom.Atom.{Atom}
use Rattle.px_terms.specs.declared.term.Term.{Term}
use Rattle.px_terms.specs.declared.term.Term.TheVariants.{Obj, Var, Any}
use Rattle.px_unify.specs.declared.change.Change.{Change}
use Rattle.px_unify.specs.Changes.{AreOneUnder, IsRoot, variables_of}
use Rattle.px_proof_walk.specs.GapAtoms.{gap_atoms}
use Rattle.px_proof_walk.specs.Pending.{goals_of}

-- the bindings of the variable end in the term
pub record IsRootOf (changes : List Change) (v : ℕ) (root : Term) : Type 0 where
  pub same : AreOneUnder changes (Var v) root
  pub is_root : IsRoot changes root

-- the end of each variable's bindings
pub record AreEnds (changes : List Change) (roots : List Term) : Type 0 where
  pub count : length roots ≡ variables_of changes
  pub each : (v : ℕ) (root : Term) → slice_get roots v ≡ Some root → IsRootOf changes v root

-- the atoms are those that the ticks close by gaps, over the first variables, of the given number
pub record AreMissing (s : Setting) (formula : List Atom) (variable_count : ℕ) (ticks : List Tick) (variables : ℕ) (missing : List Atom) : Type 0
  where
    pub atoms : missing ≡ gap_atoms true s variable_count (goals_of s formula) ticks
    pub below : All (λ (atom : Atom). All (IsVariableBelow variables) atom.args) missing

-- the bindings of the term end in this variable
abbrev pub EndsIn : List Term → Term → ℕ → Type 0
EndsIn roots (Var v) w = slice_get roots v ≡ Some (Var w)
EndsIn roots (Obj n) w = ⊥
EndsIn roots Any w = ⊥

-- the variables are the old ones and this one
pub record NotesVariable (variable : ℕ) (old new : List ℕ) : Type 0 where
  pub members : (w : ℕ) → Contains new w ↔ (Contains old w ⊎ (variable ≡ w))

-- the variables are the old ones and the one that the term is, if it is one
pub record NotesRoot (root : Term) (old new : List ℕ) : Type 0 where
  pub members : (w : ℕ) → Contains new w ↔ (Contains old w ⊎ (root ≡ Var w))

-- the variables are the old ones and those that the bindings of such terms end in
pub record NotesEnds (IsSuch : Term → Type 0) (roots : List Term) (old new : List ℕ) : Type 0 where
  pub members : (w : ℕ) → Contains new w ↔ (Contains old w ⊎ ((t : Term) × IsSuch t × EndsIn roots t w))

-- the term is one of the first variables, of the given number
abbrev pub IsFirstVariable : ℕ → Term → Type 0
IsFirstVariable variable_count t = (v : ℕ) × (v < variable_count) × (Var v ≡ t)

-- the term is an argument of one of the atoms
abbrev pub IsArgument : List Atom → Term → Type 0
IsArgument atoms t = (atom : Atom) × Contains atoms atom × Contains atom.args t

-- the objects or the atoms are over the term
abbrev pub IsOver : ℕ → List Atom → Term → Type 0
IsOver variable_count atoms t = IsFirstVariable variable_count t ⊎ IsArgument atoms t
