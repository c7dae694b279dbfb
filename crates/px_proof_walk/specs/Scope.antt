-- Which objects and variables may occur where.
use Rattle.std.specs.Prelude.{◌≡◌, ℕ, ◌<◌, Some, slice_get}
use Rattle.std.specs.List.{AllByRecursion}
use Rattle.px_terms.specs.declared.atom.Atom.{Atom}
use Rattle.px_terms.specs.declared.clause.Clause.{Clause}
use Rattle.px_terms.specs.declared.clause.Lit.{Lit}
use Rattle.px_terms.specs.declared.term.Term.{Term}
use Rattle.px_terms.specs.Language.{IsObject}
use Rattle.px_proof.specs.Proves.{IsObjectOrParameter}
use Rattle.px_question.specs.Settings.{Setting}
use Rattle.px_proof_walk.specs.Pending.{Closing, Goal}

-- the arguments of the literal are such terms
abbrev pub IsLitOf : (Term → Type 0) → Lit → Type 0
IsLitOf IsTerm lit = AllByRecursion IsTerm lit.atom.args

-- the arguments of the literal of a goal and of those above it are such terms
pub record HasGoalTerms (IsTerm : Term → Type 0) (goal : Goal) : Type 0 where
  pub lit : IsLitOf IsTerm goal.lit
  pub path : AllByRecursion (IsLitOf IsTerm) goal.path

-- the arguments of the literals of what closes a goal are such terms
pub record IsClosingOf (IsTerm : Term → Type 0) (closing : Closing) : Type 0 where
  pub equal_to : IsLitOf IsTerm closing.equal_to
  pub parts : AllByRecursion (HasGoalTerms IsTerm) closing.parts

-- the arguments are objects below the first number, or variables below the second
abbrev pub IsAtomIn : ℕ → ℕ → Atom → Type 0
IsAtomIn objects variable_count atom = AllByRecursion (IsObjectOrParameter objects variable_count) atom.args

abbrev pub IsLitIn : ℕ → ℕ → Lit → Type 0
IsLitIn objects variable_count = IsLitOf (IsObjectOrParameter objects variable_count)

abbrev pub IsGoalIn : ℕ → ℕ → Goal → Type 0
IsGoalIn objects variable_count = HasGoalTerms (IsObjectOrParameter objects variable_count)

-- axioms have the problem's objects and their own variables, facts any objects and no variable; a proof may have some height, and
-- there is an object where an axiom has a variable
pub record IsSetting (s : Setting) : Type 0 where
  pub clauses : (number : ℕ) (clause : Clause) → slice_get s.axioms number ≡ Some clause
      → AllByRecursion (IsLitIn s.objects clause.variable_count) clause.lits
  pub facts : (i : ℕ) (atom : Atom) → slice_get s.facts i ≡ Some atom → AllByRecursion IsObject atom.args
  pub some_height : 0 < s.height
  pub some_object : (number : ℕ) (clause : Clause) → slice_get s.axioms number ≡ Some clause → 0 < clause.variable_count → 0 < s.objects
