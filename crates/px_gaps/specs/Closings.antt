-- The atoms that gap lists close, and their objects.
use Rattle.std.specs.Prelude.{◌≡◌, ℕ, List, Any, Contains}
use Rattle.px_terms.specs.declared.atom.Atom.{Atom}
use Rattle.px_question.specs.declared.gap_list.GapList.{GapList}

-- one of the list has the property
abbrev pub OneOf : {X : Type 0} → List X → (X → Type 0) → Type 0
OneOf {X} xs P = (x : X) × Contains xs x × P x

-- one of the lists closes the atom
abbrev pub IsClosedIn : List GapList → Atom → Type 0
IsClosedIn lists atom = OneOf lists (λ list. Contains list.gaps atom)

-- one of the lists closes the atom and none of the provable atoms
abbrev pub IsMissingIn : List GapList → List Atom → Atom → Type 0
IsMissingIn lists provable atom = OneOf lists (λ list. Contains list.gaps atom × ¬ Any (Contains provable) list.gaps)

-- one of the lists has these objects and closes none of the provable atoms
abbrev pub IsChosenIn : List GapList → List Atom → List ℕ → Type 0
IsChosenIn lists provable objects = OneOf lists (λ list. (list.objects ≡ objects) × ¬ Any (Contains provable) list.gaps)
