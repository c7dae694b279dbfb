-- The terms that the conclusions of a goal's proofs give to the goal's variables.
use Rattle.std.specs.Prelude.{ℕ, ◌==◌, cond, nat_lt, Option, Some, None, List, [], ◌∷◌, map}
use Rattle.px_terms.specs.declared.atom.Atom.{Atom}
use Rattle.px_terms.specs.declared.term.Term.{Term}
use Rattle.px_terms.specs.declared.term.Term.TheVariants.{Obj, Var, Any}

-- the term, if the other is the variable of that number
abbrev pub term_if : ℕ → Term → Term → Option Term
term_if v (Obj n) term = None
term_if v (Var w) term = cond (w == v) (Some term) None
term_if v Any term = None

-- the first answer, or the second where there is no first
abbrev pub first_answer : Option Term → Option Term → Option Term
first_answer (Some term) later = Some term
first_answer None later = later

-- the term that stands in the second list where the variable stands first in the first list
abbrev pub term_beside : ℕ → List Term → List Term → Option Term
term_beside v [] terms = None
term_beside v (pattern ∷ patterns) [] = None
term_beside v (pattern ∷ patterns) (term ∷ terms) = first_answer (term_if v pattern term) (term_beside v patterns terms)

-- the term that stands among the second atoms where the variable stands first among the first, from the left
abbrev pub choice_of : ℕ → List Atom → List Atom → Option Term
choice_of v [] atoms = None
choice_of v (pattern ∷ patterns) [] = None
choice_of v (pattern ∷ patterns) (atom ∷ atoms) = first_answer (term_beside v pattern.args atom.args) (choice_of v patterns atoms)

-- a term that was chosen, or the wild card
abbrev pub chosen_or_any : Option Term → Term
chosen_or_any (Some term) = term
chosen_or_any None = Any

-- a term of the goal, with the choice for a variable that is no parameter
abbrev pub term_by : ℕ → List Atom → List Atom → Term → Term
term_by params goal atoms (Obj n) = Obj n
term_by params goal atoms (Var v) = cond (nat_lt v params) (Var v) (chosen_or_any (choice_of v goal atoms))
term_by params goal atoms Any = Any

abbrev pub atom_by : ℕ → List Atom → List Atom → Atom → Atom
atom_by params goal atoms pattern = record { pred = pattern.pred; args = map (term_by params goal atoms) pattern.args }
