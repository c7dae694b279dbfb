-- Where an atom is looked up among the facts of a state: it can only be one about its first argument. Private functions alone cite
-- this file.
use Rattle.std.specs.Prelude.{ℕ, Option, Some, None, List, [], ◌∷◌, slice_get}
use Rattle.std.proofs.Common.{zero, suc}
use Rattle.px_terms.specs.declared.atom.Atom.{Atom}
use Rattle.px_terms.specs.declared.term.Term.{Term}
use Rattle.px_terms.specs.declared.term.Term.TheVariants.{Obj, Var, Any as WildCard}
use Rattle.px_rooms.specs.declared.standing.Standing.{Standing}
use Rattle.px_rooms.specs.States.{RoomState, robot_atoms, thing_atoms}

-- the facts about an object, those of which it is the first argument
abbrev pub atoms_of_thing : ℕ → Option Standing → List Atom
atoms_of_thing k None = []
atoms_of_thing k (Some one) = thing_atoms k one

abbrev pub atoms_about : RoomState → ℕ → List Atom
atoms_about state zero = robot_atoms state
atoms_about state (suc k) = atoms_of_thing (suc k) (slice_get state.things k)

-- the number of the first term, if it is an object
abbrev pub number_first : List Term → Option ℕ
number_first [] = None
number_first (Obj n ∷ terms) = Some n
number_first (Var v ∷ terms) = None
number_first (WildCard ∷ terms) = None
