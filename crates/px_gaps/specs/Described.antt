-- What the patterns of a formula close, and under which objects.
use Rattle.std.specs.Prelude.{◌≡◌, ◌<◌, ℕ, List, All, Any, Contains}
use Rattle.px_terms.specs.declared.atom.Atom.{Atom}
use Rattle.px_terms.specs.Language.{IsVariableBelow}
use Rattle.px_terms.specs.Substitution.{substitute_atom}
use Rattle.px_prover.specs.Patterns.{AreChosen, atoms_under, objects_under}
use Rattle.px_prover.specs.declared.pattern.GapPattern.{GapPattern}
use Rattle.px_question.specs.Answers.{object_terms}
use Rattle.px_gaps.specs.Bindings.{ArePlain}
use Rattle.px_gaps.specs.Closings.{OneOf}

-- the pattern's atoms have objects and its own variables, and so have its terms; it has a variable only where there is an object
pub record IsPlainPattern (limit : ℕ) (pattern : GapPattern) : Type 0 where
  pub atoms_plain : ArePlain pattern.variable_count pattern.atoms
  pub terms_below : All (IsVariableBelow pattern.variable_count) pattern.terms
  pub some_object : 0 < pattern.variable_count → 0 < limit

-- under some objects for the pattern's variables one of its atoms is this one
abbrev pub IsClosedBy : ℕ → GapPattern → Atom → Type 0
IsClosedBy limit pattern q = OneOf pattern.atoms (λ target. (values : List ℕ) × AreChosen limit pattern.variable_count values
    × (substitute_atom (object_terms values) target ≡ q))

-- under some objects for the pattern's variables one of its atoms is this one, and none is in the set
abbrev pub IsMissingBy : ℕ → List Atom → GapPattern → Atom → Type 0
IsMissingBy limit set pattern q =
    OneOf pattern.atoms (λ target. (values : List ℕ) × AreChosen limit pattern.variable_count values
    × (¬ Any (Contains set) (atoms_under values pattern)) × (substitute_atom (object_terms values) target ≡ q))

-- under some objects for the pattern's variables none of its atoms is in the set, and the formula's variables have these objects
abbrev pub IsChosenBy : ℕ → List Atom → GapPattern → List ℕ → Type 0
IsChosenBy limit set pattern objects =
    (values : List ℕ) × AreChosen limit pattern.variable_count values × (¬ Any (Contains set) (atoms_under values pattern))
    × (objects_under values pattern ≡ objects)
