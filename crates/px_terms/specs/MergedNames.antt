-- A worked example (Lifschitz 1987): two objects that may have one element. Where they have one, dropping the first deletes
-- its atom alone, so each state that is described afterwards still has the atom of the second. Where they have two elements,
-- the natural successor is described.
use Rattle.std.specs.Prelude.{◌≡◌, [], ◌∷◌, All, slice_index_or}
use Rattle.px_terms.specs.declared.atom.Atom.{Atom}
use Rattle.px_terms.specs.declared.instance.OpInst.{OpInst}
use Rattle.px_terms.specs.declared.problem.Problem.{Problem}
use Rattle.px_terms.specs.declared.problem.Schema.{Schema}
use Rattle.px_terms.specs.declared.term.Term.{Term}
use Rattle.px_terms.specs.declared.term.Term.TheVariants.{Obj, Var}
use Rattle.px_terms.specs.Operators.{precondition}
use Rattle.px_terms.specs.Problems.{problem_without_sorts, schema_without_sorts}
use Rattle.px_terms.specs.States.{State, IsState, Holds, Described}
use Rattle.px_terms.specs.Validity.{IsInstanceOf, IsValid}

-- AT(x), the predicate 0
abbrev pub at : Term → Atom
at x = record { pred = 0; args = x ∷ [] }

-- DROP(x) needs AT(x) and deletes it
abbrev pub drop_schema : Schema
drop_schema = schema_without_sorts 0 1 (at (Var 0) ∷ []) (at (Var 0) ∷ []) []

abbrev pub two_names : Problem
two_names = problem_without_sorts 2 (1 ∷ []) [] (drop_schema ∷ []) 1 1 2

abbrev pub drop_first : OpInst
drop_first = record { op = 0; args = Obj 0 ∷ [] }

-- one element, which both objects have, and AT is true of it
abbrev pub merged : State
merged = record { size = 1; elements = 0 ∷ 0 ∷ []; tuples = ((0 ∷ []) ∷ []) ∷ [] }

-- two elements, one for each object, and AT is true of the first
abbrev pub apart : State
apart = record { size = 2; elements = 0 ∷ 1 ∷ []; tuples = ((0 ∷ []) ∷ []) ∷ [] }

-- the same elements, and AT is true of nothing
abbrev pub apart_after : State
apart_after = record { size = 2; elements = 0 ∷ 1 ∷ []; tuples = [] ∷ [] }

-- With one element for both, nothing need change when the first is dropped: each state that is described afterwards still has
-- the atom of the second, so no state in which AT is true of nothing is described. With an element for each, the state without
-- AT is.
pub record MergedNamesFact : Type 0 where
  pub valid : IsValid two_names
  pub instance : IsInstanceOf two_names drop_first
  pub states : IsState merged × IsState apart × IsState apart_after
  pub met : All (Holds merged) (precondition two_names drop_first) × All (Holds apart) (precondition two_names drop_first)
  pub stays : Described two_names drop_first merged merged
  pub kept : (after : State) → Described two_names drop_first merged after → Holds after (at (Obj 1))
  pub emptied : (after : State) → slice_index_or after.tuples 0 [] ≡ [] → ¬ Described two_names drop_first merged after
  pub natural : Described two_names drop_first apart apart_after
