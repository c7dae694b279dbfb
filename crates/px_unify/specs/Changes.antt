-- Variables and bindings as the list of the changes that made them, and the substitutions that fit them.
use Rattle.std.specs.Prelude.{◌≡◌, ℕ, ◌*◌, ◌≤◌, ◌↔◌, Option, Some, None, List, [], ◌∷◌, ◌++◌, length, set, slice_get, take, All}
use Rattle.px_terms.specs.declared.atom.Atom.{Atom}
use Rattle.px_terms.specs.declared.term.Term.{Term}
use Rattle.px_terms.specs.declared.term.Term.TheVariants.{Obj, Var, Any}
use Rattle.px_terms.specs.Language.{IsPlainBelow, substitute}
use Rattle.px_terms.specs.Substitution.{substitute_atom}
use Rattle.px_unify.specs.declared.change.Change.{Change}
use Rattle.px_unify.specs.declared.change.Change.TheVariants.{Fresh, Bound}
use Rattle.px_unify.specs.declared.change.TheConstants.{MOST_VARIABLES}

-- what each variable is bound to, if it is, after further changes
abbrev pub slots_after : List (Option Term) → List Change → List (Option Term)
slots_after slots [] = slots
slots_after slots (Fresh ∷ changes) = slots_after (slots ++ None ∷ []) changes
slots_after slots (Bound v term ∷ changes) = slots_after (set slots v (Some term)) changes

-- what each variable is bound to, if it is
abbrev pub slots_of : List Change → List (Option Term)
slots_of changes = slots_after [] changes

abbrev pub variables_of : List Change → ℕ
variables_of changes = length (slots_of changes)

-- it is the number of a variable, and the variable is not bound
abbrev pub IsUnbound : List Change → ℕ → Type 0
IsUnbound changes v = slice_get (slots_of changes) v ≡ Some None

-- an object, or a variable that is not bound
abbrev pub IsRoot : List Change → Term → Type 0
IsRoot changes (Obj o) = Unit {0}
IsRoot changes (Var v) = IsUnbound changes v
IsRoot changes Any = ⊥

-- the substitution gives a variable that is bound the value of its term
abbrev pub Meets : List Term → Change → Type 0
Meets sigma Fresh = Unit {0}
Meets sigma (Bound v term) = substitute sigma (Var v) ≡ substitute sigma term

-- the substitution fits the bindings
abbrev pub Fits : List Term → List Change → Type 0
Fits sigma changes = All (Meets sigma) changes

-- each substitution that fits gives the two terms one value
abbrev pub AreOneUnder : List Change → Term → Term → Type 0
AreOneUnder changes s t = (sigma : List Term) → Fits sigma changes → substitute sigma s ≡ substitute sigma t

-- the substitution makes the two atoms equal
abbrev pub MakesEqual : Atom → Atom → List Term → Type 0
MakesEqual a b sigma = substitute_atom sigma a ≡ substitute_atom sigma b

-- the substitution makes the two atoms of the pair equal
abbrev pub MakesPairEqual : List Term → Atom × Atom → Type 0
MakesPairEqual sigma pair = MakesEqual pair.0 pair.1 sigma

-- the substitution makes the atoms of each pair equal
abbrev pub MakesEachEqual : List (Atom × Atom) → List Term → Type 0
MakesEachEqual pairs sigma = All (MakesPairEqual sigma) pairs

-- the substitutions that fit now are those that fitted before and meet the condition
abbrev pub NarrowedBy : List Change → List Change → (List Term → Type 0) → Type 0
NarrowedBy old new Condition = (sigma : List Term) → Fits sigma new ↔ (Fits sigma old × Condition sigma)

-- no substitution that fits meets the condition
abbrev pub NoneFits : List Change → (List Term → Type 0) → Type 0
NoneFits changes Condition = (sigma : List Term) → Fits sigma changes → ¬ Condition sigma

-- whatever terms the unbound variables have, some substitution fits with them
abbrev pub HasSolutions : List Change → Type 0
HasSolutions changes =
    (chosen : List Term) → length chosen ≡ variables_of changes
    → (sigma : List Term) × (length sigma ≡ variables_of changes) × Fits sigma changes
    × ((v : ℕ) → IsUnbound changes v → slice_get sigma v ≡ slice_get chosen v)

-- the changes before a mark are still there, in front of the others
abbrev pub AreChangesKept : List Change → List Change → Type 0
AreChangesKept marked now = take (length marked) now ≡ marked

-- the list only grew, and by bindings
pub record Binds (old new : List Change) : Type 0 where
  pub prefix : AreChangesKept old new
  pub grown : length old ≤ length new
  pub variables : variables_of new ≡ variables_of old

-- each binding is of a variable that was not bound, to an object or to an earlier variable
abbrev pub WellBound : List (Option Term) → List Change → Type 0
WellBound slots [] = Unit {0}
WellBound slots (Fresh ∷ changes) = WellBound (slots ++ None ∷ []) changes
WellBound slots (Bound v term ∷ changes) =
    (slice_get slots v ≡ Some None) × IsPlainBelow v term × WellBound (set slots v (Some term)) changes

-- the slots are those of the changes, and there is room for a binding of each variable
pub record IsConsistent (changes : List Change) (slots : List (Option Term)) (capacity : ℕ) : Type 0 where
  pub slots_are : slots ≡ slots_of changes
  pub bound : WellBound [] changes
  pub room : 2 * length slots ≤ capacity
  pub few : length slots ≤ MOST_VARIABLES
