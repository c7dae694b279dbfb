-- A worked example of sorts: of two objects one has a sort, and of two parameters one.
use Rattle.std.specs.Prelude.{ℕ, ◌<◌, [], ◌∷◌}
use Rattle.px_terms.specs.declared.instance.OpInst.{OpInst}
use Rattle.px_terms.specs.declared.problem.Problem.{Problem}
use Rattle.px_terms.specs.declared.problem.Schema.{Schema}
use Rattle.px_terms.specs.declared.term.Term.TheVariants.{Obj}
use Rattle.px_terms.specs.Sorts.{IsWellSorted}
use Rattle.px_terms.specs.Validity.{IsInstanceOf, IsValid}

-- the second parameter has no sort
abbrev pub lift_schema : Schema
lift_schema = record { op = 0; params = 2; pre = []; del = []; add = []; param_sorts = 1 ∷ 0 ∷ [] }

-- the first object is a box, which is the one sort; the second is none
abbrev pub box_and_floor : Problem
box_and_floor = record {
  objects = 2;
  arities = [];
  axioms = [];
  schemas = lift_schema ∷ [];
  height = 1;
  nodes = 1;
  shapes = 2;
  sorts = 1;
  object_sorts = 1 ∷ 0 ∷ [];
  weight = 0;
}

abbrev pub lift : ℕ → ℕ → OpInst
lift x y = record { op = 0; args = Obj x ∷ Obj y ∷ [] }

-- Of the four instances those fit whose first argument is the box: an object of no sort doesn't fill a parameter that has one, and an
-- object of any sort fills a parameter without one.
pub record SortedInstancesFact : Type 0 where
  pub valid : IsValid box_and_floor
  pub instances : (x y : ℕ) → x < 2 → y < 2 → IsInstanceOf box_and_floor (lift x y)
  pub box_box : IsWellSorted box_and_floor (lift 0 0)
  pub box_floor : IsWellSorted box_and_floor (lift 0 1)
  pub floor_box : ¬ IsWellSorted box_and_floor (lift 1 0)
  pub floor_floor : ¬ IsWellSorted box_and_floor (lift 1 1)
