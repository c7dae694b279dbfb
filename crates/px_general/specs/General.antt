-- Generalisation: the table whose instances are exactly the supports of a plan's shape (Fikes, Hart and Nilsson 1972).
use Rattle.std.specs.Prelude.{◌≡◌, ℕ, List, [], ◌++◌, length, map, All, Contains}
use Rattle.px_terms.specs.declared.atom.Atom.{Atom}
use Rattle.px_terms.specs.declared.instance.OpInst.{OpInst}
use Rattle.px_terms.specs.declared.problem.Problem.{Problem}
use Rattle.px_terms.specs.Sorts.{IsWellSortedBy}
use Rattle.px_terms.specs.Validity.{IsValid}
use Rattle.px_proof.specs.Derivation.{Derivation, skeleton}
use Rattle.px_table.specs.declared.table.Table.{Table}
pub use Rattle.px_table.specs.Parameters.{is_parameter, step_terms, goal_terms, row_terms, terms_in, IsNumbered}
use Rattle.px_table.specs.Kernels.{IsInstantiation, IsProper, steps_under, goal_under, rows_under, kernel_under}
use Rattle.px_table.specs.Supports.{Supports}
use Rattle.px_table.specs.SupportShapes.{SupportShape, shape_of_support}
use Rattle.px_table.specs.Tables.{IsTable, rows_of}
use Rattle.px_table.specs.WellSorted.{HasSortsOfPlaces, ParametersFit}

-- the shape of a table's own steps, goal and proofs
abbrev pub shape_of_table : Table → SupportShape
shape_of_table table = shape_of_support table.steps table.goal (rows_of table.proofs)

-- The steps, the goal and the proofs are the table's with these objects for its parameters, which fit where the numbers have these sorts
-- and are proper from the first step on; and the atoms have its first kernel.
pub record IsTableInstance (problem : Problem) (sorts : List ℕ) (table : Table) (objects : List ℕ) (atoms : List Atom)
    (steps : List OpInst) (goal : List Atom) (rows : List (List Derivation)) : Type 0 where
  pub count : length objects ≡ table.params
  pub fitting : ParametersFit sorts table objects
  pub proper : IsProper problem table objects 1
  pub steps_are : steps ≡ steps_under table objects
  pub goal_is : goal ≡ goal_under table objects
  pub rows_are : rows ≡ rows_under table objects
  pub kernel : All (Contains atoms) (kernel_under table objects 1)

-- ---- generality

-- Whatever sorts the numbers past the problem's objects have: each proper instance supports its steps, which fit, and its goal, and has the
-- plan's shape.
abbrev pub IsSoundFor : Problem → Table → Table → Type 0
IsSoundFor problem plan general =
    (more objects : List ℕ) (atoms : List Atom) (steps : List OpInst) (goal : List Atom) (rows : List (List Derivation))
    → IsTableInstance problem (problem.object_sorts ++ more) general objects atoms steps goal rows
    → Supports problem atoms steps goal plan.goal_variable_count rows × All (IsWellSortedBy (problem.object_sorts ++ more) problem) steps
    × (shape_of_support steps goal rows ≡ shape_of_table plan)

-- Whatever sorts the numbers past the problem's objects have: each support of the plan's shape whose steps fit is a proper instance.
abbrev pub IsGeneralFor : Problem → Table → Table → Type 0
IsGeneralFor problem plan general =
    (more : List ℕ) (atoms : List Atom) (steps : List OpInst) (goal : List Atom) (rows : List (List Derivation))
    → Supports problem atoms steps goal plan.goal_variable_count rows → All (IsWellSortedBy (problem.object_sorts ++ more) problem) steps
    → shape_of_support steps goal rows ≡ shape_of_table plan
    → (objects : List ℕ) × IsTableInstance problem (problem.object_sorts ++ more) general objects atoms steps goal rows

-- The plan's table has no parameters, and the proper instances of the general one are the supports of the plan's shape. Any whole
-- number may stand for an object. Each parameter has the sort of the sorted places of steps at which it stands, or 0 where there is none.
pub record Generalises (problem : Problem) (plan general : Table) : Type 0 where
  pub no_params : plan.params ≡ 0
  pub table : IsTable problem general
  pub goal_variable_count : general.goal_variable_count ≡ plan.goal_variable_count
  pub numbered : IsNumbered general
  pub sorts : HasSortsOfPlaces problem general
  pub sound : IsSoundFor problem plan general
  pub all : IsGeneralFor problem plan general

-- Whether or not any instance is proper: the general table has the plan's operators in order, and its proofs without their terms, which are
-- their forms, ancestors, axioms and places, and the columns and indices of their leaves; with some of the problem's objects for its
-- parameters it has just the plan's steps, goal and proofs.
pub record KeepsPlan (problem : Problem) (plan general : Table) : Type 0 where
  pub operators : map (λ (inst : OpInst). inst.op) general.steps ≡ map (λ (inst : OpInst). inst.op) plan.steps
  pub skeletons : map (map skeleton) (rows_of general.proofs) ≡ map (map skeleton) (rows_of plan.proofs)
  pub objects : List ℕ
  pub instantiation : IsInstantiation problem general objects
  pub steps : steps_under general objects ≡ plan.steps
  pub goal : goal_under general objects ≡ plan.goal
  pub rows : rows_under general objects ≡ rows_of plan.proofs

-- A plan whose own steps delete nothing that its later rows rest on has at most one general table. (This isn't so of other plans: where
-- no support has the plan's shape, each table without proper instances generalises it.)
abbrev pub GeneralIsOne : Type 0
GeneralIsOne = (problem : Problem) (plan one other : Table) → IsValid problem → IsTable problem plan → IsProper problem plan [] 1
    → Generalises problem plan one → Generalises problem plan other → one ≡ other

-- Each table without parameters has a general table that keeps it, whatever its length, its height and its width.
abbrev pub GeneralsExist : Type 0
GeneralsExist = (problem : Problem) (plan : Table) → IsValid problem → IsTable problem plan → plan.params ≡ 0
    → (general : Table) × Generalises problem plan general × KeepsPlan problem plan general
