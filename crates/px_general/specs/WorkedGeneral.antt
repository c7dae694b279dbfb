-- A worked plan: an operator touches one thing, and the plan touches one thing twice, the second time for its goal.
use Rattle.std.specs.Prelude.{◌≡◌, ℕ, List, [], ◌∷◌, length}
use Rattle.px_terms.specs.declared.atom.Atom.{Atom}
use Rattle.px_terms.specs.declared.instance.OpInst.{OpInst}
use Rattle.px_terms.specs.declared.problem.Problem.{Problem}
use Rattle.px_terms.specs.declared.term.Term.{Term}
use Rattle.px_terms.specs.declared.term.Term.TheVariants.{Obj, Var}
use Rattle.px_proof.specs.declared.proof.Leaf.{Leaf}
use Rattle.px_proof.specs.declared.proof.Proof.TheVariants.{Fact}
use Rattle.px_proof.specs.Derivation.{Derivation, fact, step, none, also}
use Rattle.px_table.specs.declared.table.Table.{Table}
use Rattle.px_general.specs.General.{Generalises, IsNumbered}
use Rattle.px_replay.specs.FreshVariables.{fresh_in, fresh_variables}

abbrev pub touched : Term → Atom
touched x = record { pred = 0; args = x ∷ [] }

abbrev pub touch : Term → OpInst
touch x = record { op = 0; args = x ∷ [] }

-- one thing, which is of the one sort, and TOUCH(x) for x of that sort, which adds TOUCHED(x)
abbrev pub touching : Problem
touching = record {
  objects = 1;
  arities = 1 ∷ [];
  axioms = [];
  schemas = record { op = 0; params = 1; pre = []; del = []; add = touched (Var 0) ∷ []; param_sorts = 1 ∷ [] } ∷ [];
  height = 1;
  nodes = 1;
  shapes = 2;
  sorts = 1;
  object_sorts = 1 ∷ [];
  weight = 0;
}

-- the fact that the second step adds
abbrev pub of_second : Term → Leaf
of_second x = record { column = 2; index = 0; atom = touched x }

-- the table of two steps whose goal rests on the second, with a parameter for each of the sorts
abbrev pub touching_twice : List ℕ → Term → Term → Table
touching_twice sorts first second = record {
  params = length sorts;
  steps = touch first ∷ touch second ∷ [];
  goal = touched second ∷ [];
  goal_variable_count = 0;
  marks = record { atom = touched second; row = 3; column = 2; index = 0 } ∷ [];
  proofs = [] ∷ [] ∷ (Fact (of_second second) ∷ []) ∷ [];
  param_sorts = sorts;
}

abbrev pub plan : Table
plan = touching_twice [] (Obj 0) (Obj 0)

-- P(a,b) from the initial model, and TOUCHED(a) from the second step, below a step of an axiom of three variables
abbrev pub mixed_proof : Derivation
mixed_proof =
    step 0 (Obj 0 ∷ Obj 1 ∷ Obj 0 ∷ []) 0
    (also (fact (record { column = 0; index = 0; atom = record { pred = 1; args = Obj 0 ∷ Obj 1 ∷ [] } }))
    (also (fact (of_second (Obj 0))) none))

-- The table with a parameter for each step generalises the plan: that of the second step occurs first, in the mark, and both have the sort
-- of the places at which they stand. With the two in the other order it isn't numbered. Neither the plan itself generalises it nor the
-- table with one parameter for both things, though the problem has but one thing of their sort, nor the one whose parameters have no sort.
pub record GeneralFacts : Type 0 where
  pub answer : Generalises touching plan (touching_twice (1 ∷ 1 ∷ []) (Var 1) (Var 0))
  pub misnumbered : ¬ IsNumbered (touching_twice (1 ∷ 1 ∷ []) (Var 0) (Var 1))
  pub keeps_things : ¬ Generalises touching plan plan
  pub merges_things : ¬ Generalises touching plan (touching_twice (1 ∷ []) (Var 0) (Var 0))
  pub drops_sorts : ¬ Generalises touching plan (touching_twice (0 ∷ 0 ∷ []) (Var 1) (Var 0))
  pub fresh : fresh_variables plan ≡ 3
  pub fresh_in_proof : fresh_in mixed_proof ≡ 5
