-- The smallest searches with a weight, and what small nodes lack.
use Rattle.std.specs.Prelude.{◌≡◌, ℕ, [], ◌∷◌}
use Rattle.px_terms.specs.declared.atom.Atom.{Atom}
use Rattle.px_terms.specs.declared.term.Term.TheVariants.{Obj, Var}
use Rattle.px_table.specs.declared.entry.Entry.{Entry}
use Rattle.px_table.specs.declared.entry.Entry.TheVariants.{Op}
use Rattle.px_table.specs.declared.entry.Move.TheVariants.{Apply, Push}
use Rattle.px_ends.specs.ByValue.{IsExhausted, IsFound, IsNodeLimit}
use Rattle.px_ends.specs.Lacks.{lacks_of, needs}
use Rattle.px_ends.specs.WorkedEnds.{bare, make, maker, p, p_from_none, stuck}

-- an atom that needs the same object twice, and one that doesn't
abbrev pub twice_x : Atom
twice_x = record { pred = 0; args = Var 0 ∷ Var 0 ∷ [] }

abbrev pub x_and_y : Atom
x_and_y = record { pred = 0; args = Var 0 ∷ Var 1 ∷ [] }

abbrev pub a_and_b : Atom
a_and_b = record { pred = 0; args = Obj 0 ∷ Obj 1 ∷ [] }

-- the operator that needs Q
abbrev pub get_stuck : Entry
get_stuck = Op (record { op = 0; args = [] })

-- Of the formula P(x,x), P(x,y), P(x,x) two atoms have no instance among the facts P(A,B). To reach P from nothing the first node needs 1,
-- and no less with the operator on its stack that needs nothing; with the one that needs Q it needs 2. Where P holds nothing is needed.
-- With each weight P is reached as the third node, which is the node limit where there is room for two; and with the operator alone that
-- isn't open the search is exhausted.
pub record ValueFacts : Type 0 where
  pub counted : lacks_of (record { formula = twice_x ∷ x_and_y ∷ twice_x ∷ []; variable_count = 2; facts = a_and_b ∷ [] }) ≡ 2
  pub at_first : (nodes : ℕ) → needs (p_from_none (stuck ∷ maker ∷ []) nodes) (bare []) ≡ 1
  pub with_make : (nodes : ℕ) → needs (p_from_none (stuck ∷ maker ∷ []) nodes) (bare (make ∷ [])) ≡ 1
  pub with_stuck : (nodes : ℕ) → needs (p_from_none (stuck ∷ maker ∷ []) nodes) (bare (get_stuck ∷ [])) ≡ 2
  pub at_last : (nodes : ℕ) → needs (p_from_none (stuck ∷ maker ∷ []) nodes) (record { model = p ∷ []; stack = [] }) ≡ 0
  pub made : (weight : ℕ) → IsFound (p_from_none (stuck ∷ maker ∷ []) 3) weight (Push make ∷ Apply ∷ [])
  pub no_room : (weight : ℕ) → IsNodeLimit (p_from_none (stuck ∷ maker ∷ []) 2) weight (bare [] ∷ bare (make ∷ []) ∷ []) 2
  pub not_open : (weight : ℕ) → IsExhausted (p_from_none (stuck ∷ []) 1) weight
