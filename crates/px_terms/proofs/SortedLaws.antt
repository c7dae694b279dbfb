-- What the worked example of sorts says is proved.
use Rattle.std.specs.Prelude.{◌≡◌, ◌<◌, ◌≤◌, ℕ, List, [], ◌∷◌, All, slice_index_or}
use Rattle.std.proofs.Common.{refl, arith, zero, suc}
use Rattle.std.proofs.lemmas.List.Elements.{All-cons}
use Rattle.px_terms.specs.declared.term.Term.TheVariants.{Obj}
use Rattle.px_terms.specs.Clauses.{IsClause}
use Rattle.px_terms.specs.MergedNamesLaws.{All-nothing, one}
use Rattle.px_terms.specs.Operators.{no_schema}
use Rattle.px_terms.specs.SortedInstances.{SortedInstancesFact, box_and_floor, lift, lift_schema}
use Rattle.px_terms.specs.Sorts.{IsWellSorted}
use Rattle.px_terms.specs.Validity.{AreSortsOf, IsAtomOf, IsInstanceOf, IsPatternOf, IsSchemaOf, IsTermOf, IsValid}

one_and_none : AreSortsOf box_and_floor (1 ∷ 0 ∷ [])
one_and_none = All-cons (λ (sort : ℕ). sort ≤ 1) 1 (0 ∷ []) (omega arith) (one (λ (sort : ℕ). sort ≤ 1) 0 (omega arith))

lift_is_schema : IsSchemaOf box_and_floor 0 lift_schema
lift_is_schema = record {
  number = refl;
  params = omega arith;
  pre = All-nothing (IsAtomOf box_and_floor 2);
  del = All-nothing (IsPatternOf box_and_floor 2);
  add = All-nothing (IsAtomOf box_and_floor 2);
  short = (omega arith, omega arith, omega arith);
  sorts = (refl, one_and_none);
}

each_schema : (k : ℕ) → k < 1 → IsSchemaOf box_and_floor k (slice_index_or (lift_schema ∷ []) k no_schema)
each_schema zero below = lift_is_schema
each_schema (suc k) below = absurd (omega (arith, below))

valid : IsValid box_and_floor
valid = record {
  schemas = each_schema;
  axioms = All-nothing _;
  arena = record { each = All-nothing IsClause; most = omega arith };
  short = (omega arith, omega arith);
  height = (omega arith, omega arith);
  nodes = (omega arith, omega arith);
  shapes = (omega arith, omega arith);
  weight = omega arith;
  sorts = (refl, one_and_none, omega arith);
  no_objects = λ none_there. absurd (omega (arith, none_there));
}

lift-is : (x y : ℕ) → x < 2 → y < 2 → IsInstanceOf box_and_floor (lift x y)
lift-is x y first second = record {
  op = omega arith;
  count = refl;
  objects = All-cons (IsTermOf box_and_floor 0) (Obj x) (Obj y ∷ []) first (one (IsTermOf box_and_floor 0) (Obj y) second);
}

-- the first argument is the box
box-fits : (y : ℕ) → IsWellSorted box_and_floor (lift 0 y)
box-fits y zero below sorted = refl
box-fits y (suc zero) below sorted = absurd (sorted refl)
box-fits y (suc (suc k)) below sorted = absurd (omega (arith, below))

-- the first argument has no sort
floor-differs : (y : ℕ) → ¬ IsWellSorted box_and_floor (lift 1 y)
floor-differs y fits =
    let same : 0 ≡ 1 = fits 0 (omega arith) (λ is. absurd (omega (arith, is))) in omega (arith, same)

pub sorted_instances : SortedInstancesFact
sorted_instances = record {
  valid = valid;
  instances = lift-is;
  box_box = box-fits 0;
  box_floor = box-fits 1;
  floor_box = floor-differs 0;
  floor_floor = floor-differs 1;
}
