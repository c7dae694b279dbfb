-- A test that decides by computing whether a table is one, for definitions that have to compute.
use Rattle.std.specs.Prelude.{ℕ, ◌+◌, ◌==◌, ◌&&◌, ◌||◌, Bool, true, false, cond, not, nat_le, nat_lt, Option, Some, None, List, [], ◌∷◌, length, map, slice_get, slice_index, slice_index_or}
use Rattle.std.proofs.Common.{zero, suc}
use Rattle.std.specs.Bool.{Decides}
use Rattle.std.specs.Cmp.Lexicographic.{pointwise}
use Rattle.std.specs.List.{list_all, list_any}
use Rattle.px_base.specs.Bounds.{u32_max}
use Rattle.px_terms.specs.declared.atom.Atom.{Atom}
use Rattle.px_terms.specs.declared.clause.Clause.{Clause}
use Rattle.px_terms.specs.declared.clause.Lit.{Lit}
use Rattle.px_terms.specs.declared.instance.OpInst.{OpInst}
use Rattle.px_terms.specs.declared.problem.Problem.{Problem}
use Rattle.px_terms.specs.declared.term.Term.{Term}
use Rattle.px_terms.specs.declared.term.Term.TheVariants.{Obj, Var, Any}
use Rattle.px_terms.specs.Operators.{adds, precondition, schema_of}
use Rattle.px_terms.specs.Order.{atom_eq}
use Rattle.px_proof.specs.Derivation.{Derivation, Derivations, fact, ancestor, step, gap, open_place, none, also, leaf_atoms, leaves_of, no_atom}
use Rattle.px_proof.specs.Literals.{complement_of, positive_of}
use Rattle.px_proof.specs.Proves.{instance_of, parts_of}
use Rattle.px_table.specs.declared.mark.Mark.{Mark}
use Rattle.px_table.specs.declared.table.Table.{Table}
use Rattle.px_table.specs.Choices.{atom_by}
use Rattle.px_table.specs.Marks.{mark_eq, marks_from}
use Rattle.px_table.specs.Tables.{IsTable, rows_of}
use Rattle.px_table.specs.WellSorted.{paired}

-- the option has what is the same as the item
abbrev pub is_there : {A : Type 0} → (A → A → Bool) → Option A → A → Bool
is_there same None x = false
is_there same (Some y) x = same y x

-- ---- numbers in range

abbrev pub is_term_of : Problem → ℕ → Term → Bool
is_term_of problem variable_count (Obj n) = nat_lt n problem.objects
is_term_of problem variable_count (Var v) = nat_lt v variable_count
is_term_of problem variable_count Any = false

abbrev pub is_atom_of : Problem → ℕ → Atom → Bool
is_atom_of problem variable_count atom = (nat_lt atom.pred (length problem.arities) && (length atom.args == slice_index problem.arities atom.pred)) &&
    list_all (is_term_of problem variable_count) atom.args

abbrev pub is_step_of : Problem → ℕ → OpInst → Bool
is_step_of problem params inst = nat_lt inst.op (length problem.schemas) &&
    ((length inst.args == (schema_of problem inst).params) && list_all (is_term_of problem params) inst.args)

-- there are fewer than `u32_max` steps, and the numbers of the steps and the goal are in range
abbrev pub are_in_range : Problem → ℕ → List OpInst → List Atom → ℕ → Bool
are_in_range problem params steps goal goal_variable_count =
    nat_lt (length steps) u32_max && (list_all (is_step_of problem params) steps && list_all (is_atom_of problem (params + goal_variable_count)) goal)

-- ---- sorts

abbrev pub is_of_sort : List ℕ → List ℕ → ℕ → Term → Bool
is_of_sort sorts params wanted (Obj n) = (wanted == 0) || (slice_index sorts n == wanted)
is_of_sort sorts params wanted (Var v) = (wanted == 0) || (slice_index params v == wanted)
is_of_sort sorts params wanted Any = true

abbrev pub is_well_sorted_step : Problem → List ℕ → OpInst → Bool
is_well_sorted_step problem params inst =
    list_all (λ (place : ℕ × Term). is_of_sort problem.object_sorts params place.0 place.1)
    (paired (schema_of problem inst).param_sorts inst.args)

-- there is a sort of the problem for each parameter, and each term of each step may stand at its place
abbrev pub are_well_sorted : Problem → ℕ → List ℕ → List OpInst → Bool
are_well_sorted problem params param_sorts steps =
    (length param_sorts == params) && (list_all (λ (sort : ℕ). nat_le sort problem.sorts) param_sorts
    && list_all (is_well_sorted_step problem param_sorts) steps)

-- ---- proofs

abbrev pub is_object_or_parameter : ℕ → ℕ → Term → Bool
is_object_or_parameter objects params (Obj n) = nat_lt n objects
is_object_or_parameter objects params (Var v) = nat_lt v params
is_object_or_parameter objects params Any = false

abbrev pub lit_eq : Lit → Lit → Bool
lit_eq first second = cond first.positive second.positive (not second.positive) && atom_eq first.atom second.atom

-- the clause of that number; past the last one a clause without literals
abbrev pub clause_at : List Clause → ℕ → Clause
clause_at axioms number = slice_index_or axioms number (record { variable_count = 0; lits = [] })

-- the literal's atom, if there is a literal
abbrev pub atom_or_no_atom : Option Lit → Atom
atom_or_no_atom None = no_atom
atom_or_no_atom (Some lit) = lit.atom

-- the atom that a derivation proves, if it proves one
abbrev pub conclusion_of : List Clause → Derivation → Atom
conclusion_of axioms (fact leaf) = leaf.atom
conclusion_of axioms (ancestor i) = no_atom
conclusion_of axioms (step number theta place parts) = atom_or_no_atom (slice_get (instance_of (clause_at axioms number).lits theta) place)
conclusion_of axioms (gap atom) = no_atom
conclusion_of axioms open_place = no_atom

module _ (objects params : ℕ) (axioms : List Clause) where
  -- the derivation proves the literal under the path from the atoms
  abbrev mutual
    pub proves : List Atom → List Lit → Lit → Derivation → Bool
    proves atoms path lit (fact leaf) = lit_eq lit (positive_of leaf.atom) &&
        (list_any (atom_eq leaf.atom) atoms && list_all (is_object_or_parameter objects params) leaf.atom.args)
    proves atoms path lit (ancestor i) = is_there lit_eq (slice_get path i) (complement_of lit)
    proves atoms path lit (step number theta place parts) =
        nat_lt number (length axioms) && ((length theta == (clause_at axioms number).variable_count) &&
        (list_all (is_object_or_parameter objects params) theta
        && (is_there lit_eq (slice_get (instance_of (clause_at axioms number).lits theta) place) lit && proves_all atoms (lit ∷ path)
        (parts_of (clause_at axioms number).lits theta place) parts)))
    proves atoms path lit (gap atom) = false
    proves atoms path lit open_place = false

    -- the derivations prove the literals, one each, in order
    pub proves_all : List Atom → List Lit → List Lit → Derivations → Bool
    proves_all atoms path [] none = true
    proves_all atoms path (lit ∷ lits) (also d ds) = proves atoms path lit d && proves_all atoms path lits ds
    proves_all atoms path [] (also d ds) = false
    proves_all atoms path (lit ∷ lits) none = false

  -- it proves the atom from the atoms of its leaves
  abbrev pub is_proof_of : Atom → Derivation → Bool
  is_proof_of atom d =
      proves (leaf_atoms (leaves_of d)) [] (positive_of atom) d && list_all (is_object_or_parameter objects params) atom.args

  -- each proves its atom
  abbrev pub proves_each_of : List Atom → List Derivation → Bool
  proves_each_of [] [] = true
  proves_each_of [] (d ∷ row) = false
  proves_each_of (atom ∷ atoms) [] = false
  proves_each_of (atom ∷ atoms) (d ∷ row) = is_proof_of atom d && proves_each_of atoms row

  -- the row proves what the goal becomes with the terms that stand for its variables in what is proved
  abbrev pub proves_goal : List Atom → List Derivation → Bool
  proves_goal goal row =
      proves_each_of (map (conclusion_of axioms) row) row && pointwise atom_eq
      (map (atom_by params goal (map (conclusion_of axioms) row)) goal) (map (conclusion_of axioms) row)

  abbrev pub rows_prove : Problem → List OpInst → List Atom → List (List Derivation) → Bool
  rows_prove problem [] goal [] = false
  rows_prove problem [] goal (row ∷ []) = proves_goal goal row
  rows_prove problem [] goal (row ∷ second ∷ rows) = false
  rows_prove problem (inst ∷ steps) goal [] = false
  rows_prove problem (inst ∷ steps) goal (row ∷ rows) = proves_each_of (precondition problem inst) row && rows_prove problem steps goal rows

-- ---- marks

-- the step adds the atom at the index
abbrev pub is_adder : Problem → ℕ → Atom → Option OpInst → Bool
is_adder problem index atom None = false
is_adder problem index atom (Some inst) = is_there atom_eq (slice_get (adds problem inst) index) atom

-- the column is the initial model, with index 0, or a step that adds the atom at the index
abbrev pub is_source : Problem → List OpInst → ℕ → ℕ → Atom → Bool
is_source problem steps zero index atom = index == 0
is_source problem steps (suc k) index atom = is_adder problem index atom (slice_get steps k)

abbrev pub is_named : Problem → List OpInst → Mark → Bool
is_named problem steps mark = nat_lt mark.column mark.row && is_source problem steps mark.column mark.index mark.atom

-- ---- tables

-- with the marks of the rows these make a table
abbrev pub rows_are_table : Problem → ℕ → List ℕ → List OpInst → List Atom → ℕ → List (List Derivation) → Bool
rows_are_table problem params param_sorts steps goal goal_variable_count rows =
    are_in_range problem params steps goal goal_variable_count && (are_well_sorted problem params param_sorts steps &&
    (rows_prove problem.objects params problem.axioms problem steps goal rows
    && (list_all (λ (mark : Mark). is_atom_of problem params mark.atom) (marks_from 1 rows)
    && list_all (is_named problem steps) (marks_from 1 rows))))

abbrev pub is_table : Problem → Table → Bool
is_table problem table =
    rows_are_table problem table.params table.param_sorts table.steps table.goal table.goal_variable_count (rows_of table.proofs)
    && pointwise mark_eq table.marks (marks_from 1 (rows_of table.proofs))

-- the test is true of tables alone, and of each
abbrev pub TablesAreDecided : Type 0
TablesAreDecided = (problem : Problem) (table : Table) → Decides (is_table problem table) (IsTable problem table)
