-- Objects for a table's parameters, chosen one after the other.
use Rattle.std.specs.Prelude.{◌≡◌, ◌⊎◌, ◌==◌, ℕ, false, cond, nat_lt, Option, Some, None, List, length, slice_get, slice_index, All, ◌&&◌, map, filter}
use Rattle.px_question.specs.Answers.{object_terms}
use Rattle.px_table.specs.declared.table.Table.{Table}
use Rattle.px_table.specs.Kernels.{instance_under}
use Rattle.px_table.specs.Prefixes.{IsUsed}
use Rattle.px_table.specs.declared.mark.Mark.{Mark}
use Rattle.px_terms.specs.declared.atom.Atom.{Atom}
use Rattle.px_terms.specs.declared.instance.OpInst.{OpInst}
use Rattle.px_terms.specs.declared.problem.Problem.{Problem}
use Rattle.px_terms.specs.declared.term.Term.{Term}
use Rattle.px_terms.specs.declared.term.Term.TheVariants.{Obj, Var, Any}
use Rattle.px_terms.specs.Operators.{deletes}
use Rattle.px_terms.specs.Substitution.{substitute_atom}
use Rattle.px_gaps.specs.Bindings.{ExtendsTerms, IsBinding}
use Rattle.px_gaps.specs.Closings.{OneOf}

-- a parameter that the first steps use is a variable, and each other one has object 0
abbrev pub IsFirstTerm : Table → ℕ → ℕ → Term → Type 0
IsFirstTerm table prefix v t = (IsUsed table prefix v × (t ≡ Var v)) ⊎ ((¬ IsUsed table prefix v) × (t ≡ Obj 0))

-- such a term for each parameter
pub record AreFirstTerms (table : Table) (prefix : ℕ) (terms : List Term) : Type 0 where
  pub count : length terms ≡ table.params
  pub each : (v : ℕ) (t : Term) → slice_get terms v ≡ Some t → IsFirstTerm table prefix v t

-- wherever the terms have an object, the objects have it, too
abbrev pub FitsTerms : List Term → List ℕ → Type 0
FitsTerms terms sigma = (v n : ℕ) → slice_get terms v ≡ Some (Obj n) → slice_index sigma v ≡ n

-- the object of both, or of the one that has one; none where they have two, or one that is no object of the problem
abbrev pub merged_term : ℕ → Term → Term → Option Term
merged_term limit (Obj a) (Obj b) = cond (a == b) (Some (Obj a)) None
merged_term limit (Obj a) (Var w) = Some (Obj a)
merged_term limit (Obj a) Any = Some (Obj a)
merged_term limit (Var v) (Obj b) = cond (nat_lt b limit) (Some (Obj b)) None
merged_term limit (Var v) (Var w) = Some (Var v)
merged_term limit (Var v) Any = Some (Var v)
merged_term limit Any other = Some Any

-- no object of the problem fits both terms at the place
abbrev pub IsClash : ℕ → List Term → List Term → ℕ → Type 0
IsClash limit terms others place =
    (t o : Term) → slice_get terms place ≡ Some t → slice_get others place ≡ Some o → merged_term limit t o ≡ None

-- with these objects the add is the atom, and none of the later steps deletes it
abbrev pub IsLeftAdd : Problem → List OpInst → Atom → List ℕ → Atom → Type 0
IsLeftAdd problem later wanted sigma add = (substitute_atom (object_terms sigma) add ≡ wanted)
    × All (λ (step : OpInst). deletes problem (instance_under sigma step) wanted ≡ false) later

-- terms for this many parameters, each an object or the parameter itself
pub record IsParameterMatch (limit count : ℕ) (terms : List Term) : Type 0 where
  pub long : length terms ≡ count
  pub binding : IsBinding limit terms

-- The new list has only such terms, if the old one had. Objects that extend one of the old terms extend one of the new; and so do all
-- that extend the first terms and are wanted.
pub record Matches (limit count : ℕ) (start : List Term) (IsWanted : List ℕ → Type 0) (old new : List (List Term)) : Type 0 where
  pub form : All (IsParameterMatch limit count) old → All (IsParameterMatch limit count) new
  pub kept : (sigma : List ℕ) → OneOf old (λ terms. ExtendsTerms limit terms sigma) → OneOf new (λ terms. ExtendsTerms limit terms sigma)
  pub all : (sigma : List ℕ) → ExtendsTerms limit start sigma → IsWanted sigma → OneOf new (λ terms. ExtendsTerms limit terms sigma)

-- the atoms of the row's marks that come from the initial model, with these terms for the parameters
abbrev pub row_formula : Table → List Term → ℕ → List Atom
row_formula table terms row = map (λ (mark : Mark). substitute_atom terms mark.atom)
    (filter (λ (mark : Mark). (mark.row == row) && (mark.column == 0)) table.marks)
