-- What calls say of an answer that the shape limit stopped.
use Rattle.std.specs.Prelude.{List, Result, Ok, Err}
use Rattle.px_terms.specs.declared.atom.Atom.{Atom}
use Rattle.px_proof.specs.declared.shape.Tick.{Tick}
use Rattle.px_gaps.specs.declared.ask_err.AskErr.{AskErr}
use Rattle.px_gaps.specs.declared.ask_err.AskErr.TheVariants.{ShapeLimit, NoMemory}

-- the fact holds of the formula and the shapes that are kept, where the error is that the limit is met
abbrev pub AtLimit : AskErr → (List Atom → List (List Tick) → Type 0) → Type 0
AtLimit (ShapeLimit formula shapes) P = P formula shapes
AtLimit NoMemory P = Unit {0}

-- the fact holds of them, where the result is such an error
abbrev pub IfLimit : {A : Type 0} → Result A AskErr → (List Atom → List (List Tick) → Type 0) → Type 0
IfLimit (Ok answer) P = Unit {0}
IfLimit (Err error) P = AtLimit error P
