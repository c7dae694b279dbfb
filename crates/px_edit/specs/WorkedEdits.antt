-- Edits worked out by hand: of the general table of the example of 1972, and which steps of a plan for three blocks are kept.
use Rattle.std.specs.Prelude.{◌≡◌, ℕ, true, false, List, [], ◌∷◌, map}
use Rattle.px_terms.specs.declared.atom.Atom.{Atom}
use Rattle.px_terms.specs.declared.problem.Problem.{Problem}
use Rattle.px_terms.specs.declared.term.Term.{Term}
use Rattle.px_terms.specs.declared.term.Term.TheVariants.{Obj, Var, Any as WildCard}
use Rattle.px_proof.specs.Derivation.{Derivation, fact, step, none, also}
use Rattle.px_proof.specs.LayerLaws.{proof_of}
use Rattle.px_table.specs.declared.mark.Mark.{Mark}
use Rattle.px_table.specs.declared.table.Table.{Table}
use Rattle.px_table.specs.Tables.{table_of_rows}
use Rattle.px_edit.specs.Editing.{AreKeptSteps, IsEdited}

-- ---- going through a door, and coming back with a box

abbrev pub stands_in : Term → Term → Atom
stands_in thing room = record { pred = 0; args = thing ∷ room ∷ [] }

abbrev pub leads_to : Term → Term → Term → Atom
leads_to door here there = record { pred = 1; args = door ∷ here ∷ there ∷ [] }

abbrev pub crate : Term → Atom
crate thing = record { pred = 2; args = thing ∷ [] }

-- the fact that the step of that number adds at the place, or a first one
abbrev pub taken_from : ℕ → ℕ → Atom → Derivation
taken_from column index atom = fact (record { column = column; index = index; atom = atom })

-- Object 0 is the robot. Operator 0 goes through a door, and operator 1 pushes a box through one.
abbrev pub fetching_problem : Problem
fetching_problem = record {
  objects = 7;
  arities = 2 ∷ 3 ∷ 1 ∷ [];
  axioms = record {
    variable_count = 3;
    lits = record { positive = false; atom = leads_to (Var 0) (Var 1) (Var 2) }
        ∷ record { positive = true; atom = leads_to (Var 0) (Var 2) (Var 1) } ∷ [];
  } ∷ [];
  schemas = record {
    op = 0;
    params = 3;
    pre = stands_in (Obj 0) (Var 1) ∷ leads_to (Var 0) (Var 1) (Var 2) ∷ [];
    del = stands_in (Obj 0) WildCard ∷ [];
    add = stands_in (Obj 0) (Var 2) ∷ [];
    param_sorts = 0 ∷ 0 ∷ 0 ∷ [];
  } ∷ record {
    op = 1;
    params = 4;
    pre = stands_in (Var 0) (Var 2) ∷ stands_in (Obj 0) (Var 2) ∷ leads_to (Var 1) (Var 2) (Var 3) ∷ [];
    del = stands_in (Obj 0) WildCard ∷ stands_in (Var 0) WildCard ∷ [];
    add = stands_in (Obj 0) (Var 3) ∷ stands_in (Var 0) (Var 3) ∷ [];
    param_sorts = 0 ∷ 0 ∷ 0 ∷ 0 ∷ [];
  } ∷ [];
  height = 4;
  nodes = 10000;
  shapes = 10000;
  sorts = 0;
  object_sorts = 0 ∷ 0 ∷ 0 ∷ 0 ∷ 0 ∷ 0 ∷ 0 ∷ [];
  weight = 0;
}

abbrev pub fetching_rows : List (List Derivation)
fetching_rows =
    (taken_from 0 0 (stands_in (Obj 0) (Var 0)) ∷ taken_from 0 0 (leads_to (Var 1) (Var 0) (Var 2)) ∷ [])
    ∷ (taken_from 0 0 (stands_in (Var 3) (Var 2)) ∷ taken_from 1 0 (stands_in (Obj 0) (Var 2))
    ∷ step 0 (Var 4 ∷ Var 5 ∷ Var 2 ∷ []) 1 (also (taken_from 0 0 (leads_to (Var 4) (Var 5) (Var 2))) none) ∷ [])
    ∷ (taken_from 0 0 (crate (Var 3)) ∷ taken_from 2 1 (stands_in (Var 3) (Var 5)) ∷ []) ∷ []

-- the general table of going through a door and pushing a box back through another
abbrev pub fetching_table : Table
fetching_table = table_of_rows 6 (0 ∷ 0 ∷ 0 ∷ 0 ∷ 0 ∷ 0 ∷ [])
    (record { op = 0; args = Var 1 ∷ Var 0 ∷ Var 2 ∷ [] } ∷ record { op = 1; args = Var 3 ∷ Var 4 ∷ Var 2 ∷ Var 5 ∷ [] } ∷ [])
    (crate (Var 6) ∷ stands_in (Var 6) (Var 5) ∷ []) 1 (map (map proof_of) fetching_rows)

abbrev pub going_rows : List (List Derivation)
going_rows =
    (taken_from 0 0 (stands_in (Obj 0) (Var 0)) ∷ taken_from 0 0 (leads_to (Var 1) (Var 0) (Var 2)) ∷ [])
    ∷ (taken_from 1 0 (stands_in (Obj 0) (Var 2)) ∷ []) ∷ []

-- going alone
abbrev pub going_table : Table
going_table = table_of_rows 3 (0 ∷ 0 ∷ 0 ∷ []) (record { op = 0; args = Var 1 ∷ Var 0 ∷ Var 2 ∷ [] } ∷ [])
    (stands_in (Obj 0) (Var 2) ∷ []) 0 (map (map proof_of) going_rows)

-- ---- three blocks, of which the third stands on the first

abbrev pub stacking_mark : ℕ → ℕ → ℕ → List ℕ → Mark
stacking_mark row column pred things = record { row = row; column = column; index = 0; atom = record { pred = pred; args = map Obj things } }

-- The marks of the plan of five steps that puts A on B and B on C: C off A, A on B, A off B, B on C, A on B. Predicate 0 is ON, 1 is CLEAR,
-- 2 says that two things differ; the objects are A, B, C and the table.
abbrev pub stacking_marks : List Mark
stacking_marks =
    stacking_mark 1 0 1 (2 ∷ []) ∷ stacking_mark 1 0 0 (2 ∷ 0 ∷ []) ∷ stacking_mark 1 0 2 (2 ∷ 0 ∷ [])
    ∷ stacking_mark 2 1 1 (0 ∷ []) ∷ stacking_mark 2 0 1 (1 ∷ []) ∷ stacking_mark 2 0 0 (0 ∷ 3 ∷ []) ∷ stacking_mark 2 0 2 (0 ∷ 1 ∷ [])
    ∷ stacking_mark 3 1 1 (0 ∷ []) ∷ stacking_mark 3 2 0 (0 ∷ 1 ∷ []) ∷ stacking_mark 3 0 2 (0 ∷ 1 ∷ [])
    ∷ stacking_mark 4 3 1 (1 ∷ []) ∷ stacking_mark 4 0 1 (2 ∷ []) ∷ stacking_mark 4 0 0 (1 ∷ 3 ∷ []) ∷ stacking_mark 4 0 2 (1 ∷ 2 ∷ [])
    ∷ stacking_mark 5 1 1 (0 ∷ []) ∷ stacking_mark 5 3 1 (1 ∷ []) ∷ stacking_mark 5 3 0 (0 ∷ 3 ∷ []) ∷ stacking_mark 5 0 2 (0 ∷ 1 ∷ [])
    ∷ stacking_mark 6 5 0 (0 ∷ 1 ∷ []) ∷ stacking_mark 6 4 0 (1 ∷ 2 ∷ []) ∷ []

-- Of the first step's add going alone is left: the table without the second step, the box and its door. Of the last step's add all steps of
-- the stacking are left but the fourth.
pub record WorkedEdits : Type 0 where
  pub going : IsEdited fetching_problem fetching_table ((1, 0) ∷ []) going_table
  pub stacking : (table : Table) → table.marks ≡ stacking_marks → AreKeptSteps table ((5, 0) ∷ []) (1 ∷ 2 ∷ 3 ∷ 5 ∷ [])
