-- States of the world as finite interpretations, what is true in them, and the actions that operators describe
-- (Lifschitz 1987, for finite interpretations).
use Rattle.std.specs.Prelude.{◌≡◌, ℕ, ◌<◌, ◌≤◌, Bool, true, false, List, [], length, map, All, Any, Contains, slice_index, slice_index_or}
use Rattle.px_terms.specs.declared.atom.Atom.{Atom}
use Rattle.px_terms.specs.declared.clause.Lit.{Lit}
use Rattle.px_terms.specs.declared.instance.OpInst.{OpInst}
use Rattle.px_terms.specs.declared.problem.Problem.{Problem}
use Rattle.px_terms.specs.declared.term.Term.{Term}
use Rattle.px_terms.specs.declared.term.Term.TheVariants.{Obj, Var, Any as WildCard}
use Rattle.px_terms.specs.Operators.{IsDeleted, precondition, adds, schema_of}
use Rattle.px_terms.specs.Validity.{IsAtomOf}

-- a finite interpretation: the elements are the numbers below the size; each object has an element, and
-- each predicate a list of the tuples of elements of which it is true
pub record State : Type 0 where
  pub size : ℕ
  pub elements : List ℕ
  pub tuples : List (List (List ℕ))

-- there is an element, and each element that is named is one of the state
pub record IsState (state : State) : Type 0 where
  pub not_empty : 1 ≤ state.size
  pub elements : All (λ e. e < state.size) state.elements
  pub tuples : All (All (All (λ e. e < state.size))) state.tuples

-- the element of a term, where `values` has the elements of the variables; an object that isn't listed has the element 0
abbrev pub element_of : State → List ℕ → Term → ℕ
element_of state values (Obj n) = slice_index state.elements n
element_of state values (Var v) = slice_index values v
element_of state values WildCard = 0

-- the atom is true where the variables have these elements
abbrev pub HoldsUnder : State → List ℕ → Atom → Type 0
HoldsUnder state values atom = Contains (slice_index_or state.tuples atom.pred []) (map (element_of state values) atom.args)

-- the ground atom is true in the state
abbrev pub Holds : State → Atom → Type 0
Holds state atom = HoldsUnder state [] atom

-- `values` has an element of the state for each of the variables
abbrev pub AreValues : State → ℕ → List ℕ → Type 0
AreValues state variable_count values = (length values ≡ variable_count) × All (λ e. e < state.size) values

-- the literal is true where the variables have these elements: its atom is, or where it denies the atom, its atom is not
abbrev pub LiteralHoldsUnder : State → List ℕ → Lit → Type 0
LiteralHoldsUnder state values lit = signed lit.positive where
  signed : Bool → Type 0
  signed true = HoldsUnder state values lit.atom
  signed false = ¬ HoldsUnder state values lit.atom

-- each axiom has a true literal, whatever elements its variables have
abbrev pub AxiomsHold : Problem → State → Type 0
AxiomsHold problem state = All (λ clause. (values : List ℕ) → AreValues state clause.variable_count values
    → Any (LiteralHoldsUnder state values) clause.lits) problem.axioms

-- the second state is one that the instance may leave: where the precondition holds, all adds hold afterwards,
-- and so does each ground atom of the problem that held and isn't deleted. Nothing is asked of atoms with
-- numbers that the problem does not have, since no operator speaks of them.
pub record Described (problem : Problem) (inst : OpInst) (before after : State) : Type 0 where
  pub kept : All (Holds before) (precondition problem inst) → (atom : Atom) → IsAtomOf problem 0 atom → Holds before atom
      → ¬ IsDeleted (schema_of problem inst) inst atom → Holds after atom
  pub added : All (Holds before) (precondition problem inst) → All (Holds after) (adds problem inst)
