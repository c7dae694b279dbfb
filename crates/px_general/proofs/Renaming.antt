-- Tables whose instances are the same are each the other with its parameters renamed.
use Rattle.std.specs.Prelude.{◌≡◌, ◌+◌, ◌-◌, ◌<◌, ◌≤◌, ℕ, nat_lt, if◌then◌else◌, List, [], ◌∷◌, ◌++◌, map, length, slice_index, All, Contains}
use Rattle.std.proofs.Common.{zero, suc, refl, sym, ap, ◌∙◌, subst, inl, inr, arith}
use Rattle.std.proofs.lemmas.List.{length-map}
use Rattle.px_base.specs.ListLaws.{All-at}
use Rattle.px_terms.specs.declared.atom.Atom.{Atom}
use Rattle.px_terms.specs.declared.instance.OpInst.{OpInst}
use Rattle.px_terms.specs.declared.problem.Problem.{Problem}
use Rattle.px_terms.specs.declared.term.Term.{Term}
use Rattle.px_terms.specs.declared.term.Term.TheVariants.{Obj, Var, Any as WildCard}
use Rattle.px_terms.specs.Language.{substitute}
use Rattle.px_terms.specs.Validity.{IsAtomOf, IsTermOf}
use Rattle.px_proof.specs.Proves.{IsObjectOrParameter}
use Rattle.px_proof.specs.ProvesLaws.{term_of_name}
use Rattle.px_table.specs.declared.table.Table.{Table}
use Rattle.px_table.specs.Kernels.{goal_under, rows_under, steps_under}
use Rattle.px_table.specs.Supports.{variables}
use Rattle.px_table.specs.Tables.{IsStepOf, IsTable, rows_of}
use Rattle.px_terms.proofs.VariableLemmas.{length-variables}
use Rattle.px_replay.proofs.GoalSteps.{read-variable}
use Rattle.px_general.specs.General.{step_terms, goal_terms, row_terms}
use Rattle.px_general.proofs.Mapped.{atom_by, instance_by, rows_by, rows-under, steps-by, goal-by, rows-by, steps-same, goal-same, rows-same}
use Rattle.px_general.proofs.Reading.{less_or_not, lt-true, lt-false, read-left, read-right, read-past, read-objects, Contains-from_flat_map}
use Rattle.px_general.proofs.Under.{rows_terms-allowed}

-- ---- which terms a table has

-- `count` numbers, from the first one on
abbrev pub numbers_from : ℕ → ℕ → List ℕ
numbers_from first zero = []
numbers_from first (suc count) = first ∷ numbers_from (suc first) count

pub length-numbers : (first count : ℕ) → length (numbers_from first count) ≡ count
length-numbers first zero = refl
length-numbers first (suc count) = ap suc (length-numbers (suc first) count)

pub read-numbers : (first count k : ℕ) → k < count → slice_index (numbers_from first count) k ≡ first + k
read-numbers first zero k below = absurd (omega (arith, below))
read-numbers first (suc count) zero below = omega arith
read-numbers first (suc count) (suc k) below = read-numbers (suc first) count k (omega (arith, below)) ∙ omega arith

pub term_of_more : (problem : Problem) (few more : ℕ) (t : Term) → IsTermOf problem few t → IsTermOf problem (few + more) t
term_of_more problem few more (Obj n) is = is
term_of_more problem few more (Var v) is = omega (arith, is)
term_of_more problem few more WildCard is = is

module _ (problem : Problem) (params : ℕ) where
  pub steps-terms : (steps : List OpInst) → All (IsStepOf problem params) steps → (t : Term) → Contains (step_terms steps) t
      → IsTermOf problem params t
  steps-terms steps all t has =
      let from = Contains-from_flat_map (λ (s : OpInst). s.args) steps t has in
      All-at (IsTermOf problem params) from.0.args t (All-at (IsStepOf problem params) steps from.0 all from.1).terms from.2

  pub goal-terms : (goal : List Atom) → All (IsAtomOf problem params) goal → (t : Term) → Contains (goal_terms goal) t
      → IsTermOf problem params t
  goal-terms goal all t has =
      let from = Contains-from_flat_map (λ (a : Atom). a.args) goal t has in
      All-at (IsTermOf problem params) from.0.args t (All-at (IsAtomOf problem params) goal from.0 all from.1).1 from.2

-- the terms of the table's steps, goal and rows
module _ (problem : Problem) (table : Table) (is_table : IsTable problem table) where
  pub of-steps : (t : Term) → Contains (step_terms table.steps) t → IsTermOf problem table.params t
  of-steps = steps-terms problem table.params table.steps is_table.in_range.steps

  pub of-goal : (t : Term) → Contains (goal_terms table.goal) t → IsTermOf problem (table.params + table.goal_variable_count) t
  of-goal = goal-terms problem (table.params + table.goal_variable_count) table.goal is_table.in_range.goal

  pub of-rows : (t : Term) → Contains (row_terms (rows_of table.proofs)) t → IsTermOf problem table.params t
  of-rows t has =
      term_of_name problem table.params t
      (All-at (IsObjectOrParameter problem.objects table.params) (row_terms (rows_of table.proofs)) t
      (rows_terms-allowed (IsObjectOrParameter problem.objects table.params) problem table.params table.goal table.goal_variable_count table.steps
      (rows_of table.proofs) is_table.prove) has)

-- ---- putting objects in, and reading parameters back from them

-- the objects for the parameters, while the goal's own variables are numbered from 0
abbrev pub put_in : List ℕ → ℕ → Term → Term
put_in objects goal_variable_count = substitute (map Obj objects ++ variables goal_variable_count)

-- an object from the limit on is read as a parameter; the goal's own variables follow the parameters
abbrev pub read_back : ℕ → ℕ → Term → Term
read_back limit params (Obj n) = if nat_lt n limit then Obj n else Var (n - limit)
read_back limit params (Var v) = Var (params + v)
read_back limit params WildCard = WildCard

abbrev pub renamed : ℕ → ℕ → List ℕ → ℕ → Term → Term
renamed limit params objects goal_variable_count t = read_back limit params (put_in objects goal_variable_count t)

pub below-back : (limit params n : ℕ) → n < limit → read_back limit params (Obj n) ≡ Obj n
below-back limit params n below = ap (λ b. if b then Obj n else Var (n - limit)) (lt-true n limit below)

pub above-back : (limit params n : ℕ) → limit ≤ n → read_back limit params (Obj n) ≡ Var (n - limit)
above-back limit params n above = ap (λ b. if b then Obj n else Var (n - limit)) (lt-false n limit above)

module _ (objects : List ℕ) (params goal_variable_count : ℕ) (count : length objects ≡ params) where
  pub put-parameter : (v : ℕ) → v < params → put_in objects goal_variable_count (Var v) ≡ Obj (slice_index objects v)
  put-parameter v below =
      read-left (map Obj objects) (variables goal_variable_count) v (omega (arith, below, count, length-map objects Obj))
      ∙ read-objects objects v (omega (arith, below, count))

  pub put-own : (j : ℕ) → j < goal_variable_count → put_in objects goal_variable_count (Var (params + j)) ≡ Var j
  put-own j below =
      read-right (map Obj objects) (variables goal_variable_count) params j (sym count ∙ sym (length-map objects Obj))
      ∙ read-variable 0 goal_variable_count j below ∙ ap Var (omega arith)

  pub put-past : (j : ℕ) → goal_variable_count ≤ j → put_in objects goal_variable_count (Var (params + j)) ≡ WildCard
  put-past j past =
      read-right (map Obj objects) (variables goal_variable_count) params j (sym count ∙ sym (length-map objects Obj))
      ∙ read-past (variables goal_variable_count) j (omega (arith, past, length-variables 0 goal_variable_count))

  -- without the goal's own variables it is the same
  pub put-only : (problem : Problem) (t : Term) → IsTermOf problem params t → substitute (map Obj objects) t ≡ put_in objects goal_variable_count t
  put-only problem (Obj n) is = refl
  put-only problem (Var v) is = sym (read-left (map Obj objects) (variables goal_variable_count) v (omega (arith, is, count, length-map objects Obj)))
  put-only problem WildCard is = absurd is

-- numbers that no object of the problem has are read back as what they were put in for
pub new-back : (problem : Problem) (params goal_variable_count : ℕ) (t : Term) → IsTermOf problem (params + goal_variable_count) t
    → renamed problem.objects params (numbers_from problem.objects params) goal_variable_count t ≡ t
new-back problem params goal_variable_count (Obj n) is = below-back problem.objects params n is
new-back problem params goal_variable_count WildCard is = absurd is
new-back problem params goal_variable_count (Var v) is = elim (less_or_not v params) [
  | inl inside ↦
      ap (read_back problem.objects params) (put-parameter (numbers_from problem.objects params) params goal_variable_count
      (length-numbers problem.objects params) v inside ∙ ap Obj (read-numbers problem.objects params v inside))
      ∙ above-back problem.objects params (problem.objects + v) (omega arith) ∙ ap Var (omega arith)
  | inr outside ↦
      let back : params + (v - params) ≡ v = omega (arith, outside) in
      subst (λ w. renamed problem.objects params (numbers_from problem.objects params) goal_variable_count (Var w) ≡ Var w) back
      (ap (read_back problem.objects params) (put-own (numbers_from problem.objects params) params goal_variable_count
      (length-numbers problem.objects params) (v - params) (omega (arith, is, outside))))
]

-- ---- tables

-- the steps, the goal and the rows of the second are those of the first with its terms so changed
pub record IsTableBy (f : Term → Term) (from to : Table) : Type 0 where
  pub steps : map (instance_by f) from.steps ≡ to.steps
  pub goal : map (atom_by f) from.goal ≡ to.goal
  pub rows : rows_by f (rows_of from.proofs) ≡ rows_of to.proofs

-- where the instance of one table by new objects is an instance of another, it is that table with its parameters renamed
module _ (problem : Problem) (one other : Table) (is_one : IsTable problem one) (is_other : IsTable problem other) (objects : List ℕ)
    (count : length objects ≡ other.params)
    (steps_are : steps_under one (numbers_from problem.objects one.params) ≡ steps_under other objects)
    (goal_is : goal_under one (numbers_from problem.objects one.params) ≡ goal_under other objects)
    (rows_are : rows_under one (numbers_from problem.objects one.params) ≡ rows_under other objects) where
  abbrev limit : ℕ
  limit = problem.objects

  abbrev new_objects : List ℕ
  new_objects = numbers_from problem.objects one.params

  new_count : length new_objects ≡ one.params
  new_count = length-numbers problem.objects one.params

  abbrev back : Term → Term
  back = read_back limit one.params

  -- reading back what was put in
  pub is_renamed : IsTableBy (renamed problem.objects one.params objects other.goal_variable_count) other one
  is_renamed = record {
    steps =
        sym (steps-by back (substitute (map Obj objects)) (renamed limit one.params objects other.goal_variable_count) other.steps
        (λ t has. ap back (put-only objects other.params other.goal_variable_count count problem t (of-steps problem other is_other t has))))
        ∙ ap (map (instance_by back)) (sym steps_are)
        ∙ steps-by back (substitute (map Obj new_objects)) (λ t. t) one.steps
        (λ t has. ap back (put-only new_objects one.params one.goal_variable_count new_count problem t (of-steps problem one is_one t has))
        ∙ new-back problem one.params one.goal_variable_count t (term_of_more problem one.params one.goal_variable_count t (of-steps problem one is_one t has)))
        ∙ steps-same one.steps;
    goal =
        sym (goal-by back (put_in objects other.goal_variable_count) (renamed limit one.params objects other.goal_variable_count) other.goal (λ t has. refl))
        ∙ ap (map (atom_by back)) (sym goal_is)
        ∙ goal-by back (put_in new_objects one.goal_variable_count) (λ t. t) one.goal
        (λ t has. new-back problem one.params one.goal_variable_count t (of-goal problem one is_one t has))
        ∙ goal-same one.goal;
    rows =
        sym (rows-by back (substitute (map Obj objects)) (renamed limit one.params objects other.goal_variable_count) (rows_of other.proofs)
        (λ t has. ap back (put-only objects other.params other.goal_variable_count count problem t (of-rows problem other is_other t has))))
        ∙ ap (rows_by back) (sym (rows-under (map Obj objects) (rows_of other.proofs)) ∙ sym rows_are
        ∙ rows-under (map Obj new_objects) (rows_of one.proofs))
        ∙ rows-by back (substitute (map Obj new_objects)) (λ t. t) (rows_of one.proofs)
        (λ t has. ap back (put-only new_objects one.params one.goal_variable_count new_count problem t (of-rows problem one is_one t has))
        ∙ new-back problem one.params one.goal_variable_count t (term_of_more problem one.params one.goal_variable_count t (of-rows problem one is_one t has)))
        ∙ rows-same (rows_of one.proofs);
  }
