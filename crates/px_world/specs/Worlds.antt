-- Worlds as an executor knows them: what one may refuse, and what edits of facts are and leave.
use Rattle.std.specs.Prelude.{◌≡◌, ◌≤◌, ◌+◌, List, length, All, Contains}
use Rattle.px_terms.specs.declared.atom.Atom.{Atom}
use Rattle.px_terms.specs.declared.instance.OpInst.{OpInst}
use Rattle.px_terms.specs.declared.problem.Problem.{Problem}
use Rattle.px_terms.specs.AtomSets.{with_atom}
use Rattle.px_terms.specs.Instances.{IsGround}
use Rattle.px_terms.specs.Operators.{precondition}
use Rattle.px_terms.specs.States.{State, IsState, Holds, AxiomsHold}
use Rattle.px_ops.specs.Models.{without_atom}
use Rattle.px_world.specs.declared.edits.AtomEdit.{AtomEdit}
use Rattle.px_world.specs.declared.edits.AtomEdit.TheVariants.{Add, Remove}

-- the two problems have the same objects, axioms and operators
pub record HaveSameRules (one other : Problem) : Type 0 where
  pub objects : one.objects ≡ other.objects
  pub axioms : one.axioms ≡ other.axioms
  pub schemas : one.schemas ≡ other.schemas

-- the instance may be refused: in some state in which the axioms and the atoms hold, an atom of its precondition is false
pub record IsActionRefused (problem : Problem) (atoms : List Atom) (inst : OpInst) : Type 0 where
  pub state : State
  pub is_state : IsState state
  pub axioms : AxiomsHold problem state
  pub hold : All (Holds state) atoms
  pub atom : Atom
  pub needed : Contains (precondition problem inst) atom
  pub false_there : ¬ Holds state atom

-- the atoms that an edit leaves
abbrev pub edited : AtomEdit → List Atom → List Atom
edited (Add atom) atoms = with_atom atom atoms
edited (Remove atom) atoms = without_atom atom atoms

-- the edit is of a ground atom
abbrev pub IsGroundEdit : AtomEdit → Type 0
IsGroundEdit (Add atom) = IsGround atom
IsGroundEdit (Remove atom) = IsGround atom

-- an edit leaves at most one atom more
abbrev pub EditsAddOne : {E : Type 0} → (E → List Atom → List Atom) → Type 0
EditsAddOne {E} leaves = (edit : E) (atoms : List Atom) → length (leaves edit atoms) ≤ length atoms + 1
