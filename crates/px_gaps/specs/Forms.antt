-- Atoms with their variables named anew: atoms that differ only by the names of their variables have one form.
use Rattle.std.specs.Prelude.{◌≡◌, ◌<◌, ℕ, suc, cond, Some, List, [], ◌∷◌, map, length, slice_get, Contains}
use Rattle.px_terms.specs.declared.atom.Atom.{Atom}
use Rattle.px_terms.specs.declared.term.Term.{Term}
use Rattle.px_terms.specs.declared.term.Term.TheVariants.{Obj, Var, Any}
use Rattle.px_terms.specs.Order.{term_eq}
use Rattle.px_terms.specs.Substitution.{substitute_atom}
use Rattle.px_terms.specs.Validity.{IsAtomOf}
use Rattle.px_terms.specs.declared.problem.Problem.{Problem}
use Rattle.px_prover.specs.Patterns.{AreChosen}
use Rattle.px_question.specs.Answers.{object_terms}
use Rattle.px_gaps.specs.Closings.{OneOf}

-- the place at which the term stands first; the length of the list, where it stands nowhere
abbrev pub place_in : List Term → Term → ℕ
place_in [] t = 0
place_in (u ∷ args) t = cond (term_eq u t) 0 (suc (place_in args t))

-- a variable gets the place at which it stands first as its number
abbrev pub named_by : List Term → Term → Term
named_by args (Obj n) = Obj n
named_by args (Var v) = Var (place_in args (Var v))
named_by args Any = Any

abbrev pub form_by : Atom → Atom
form_by atom = record { pred = atom.pred; args = map (named_by atom.args) atom.args }

-- The form is an atom of the problem over as many variables as it has arguments, and there is an object for them. Each of its
-- variables stands at the place that is its number.
pub record IsForm (problem : Problem) (form : Atom) : Type 0 where
  pub is_atom : IsAtomOf problem (length form.args) form
  pub some_object : 0 < length form.args → 0 < problem.objects
  pub places : (v : ℕ) → Contains form.args (Var v) → slice_get form.args v ≡ Some (Var v)

-- the atom is the form under some objects for its variables, whose numbers are below that of its arguments
abbrev pub IsInstanceIn : ℕ → Atom → Atom → Type 0
IsInstanceIn limit form q = (values : List ℕ) × AreChosen limit (length form.args) values × (substitute_atom (object_terms values) form ≡ q)

-- it is an instance of one of them
abbrev pub IsStoodFor : ℕ → List Atom → Atom → Type 0
IsStoodFor limit forms q = OneOf forms (λ form. IsInstanceIn limit form q)
