-- A plan that is proper has at most one general table: each of two is the other with its parameters renamed, and as these are numbered
-- by first occurrence, none is renamed.
use Rattle.std.specs.Prelude.{◌≡◌, ◌+◌, ◌-◌, ◌<◌, ℕ, List, [], ◌∷◌, ◌++◌, map, length, filter, slice_index, Contains}
use Rattle.std.proofs.Common.{zero, suc, refl, sym, ap, ◌∙◌, subst, inl, inr, arith}
use Rattle.std.proofs.lemmas.List.{map-append}
use Rattle.std.proofs.lemmas.List.Elements.{All-contains_itself, Contains-append_right, Contains-append_cases}
use Rattle.px_terms.specs.declared.instance.OpInst.{OpInst}
use Rattle.px_terms.specs.declared.problem.Problem.{Problem}
use Rattle.px_terms.specs.declared.term.Term.{Term}
use Rattle.px_terms.specs.declared.term.Term.TheVariants.{Obj, Var, Any as WildCard}
use Rattle.px_terms.specs.Order.{term_eq}
use Rattle.px_terms.specs.Validity.{IsTermOf, IsValid}
use Rattle.px_proof.specs.declared.proof.Proof.{Proof}
use Rattle.px_proof.specs.LayerLaws.{derivations_tell_proofs}
use Rattle.px_proof.specs.ProofTerm.{derivation_of}
use Rattle.px_table.specs.declared.mark.Mark.{Mark}
use Rattle.px_table.specs.declared.table.Table.{Table}
use Rattle.px_table.specs.Kernels.{IsProper, goal_under, kernel_under, rows_under, steps_under}
use Rattle.px_table.specs.Marks.{marks_from}
use Rattle.px_table.specs.Once.{each_once}
use Rattle.px_table.specs.Supports.{variables}
use Rattle.px_table.specs.Tables.{IsTable, rows_of}
use Rattle.px_table.specs.WellSorted.{ParametersFit, sorts_by_places}
use Rattle.px_table.specs.WellSortedLaws.{sorts_of_places-computed}
use Rattle.px_general.specs.General.{Generalises, GeneralIsOne, goal_terms, is_parameter, row_terms, step_terms, terms_in}
use Rattle.px_general.proofs.Deleting.{new-proper}
use Rattle.px_general.proofs.Instances.{has_instance}
use Rattle.px_general.proofs.Mapped.{goal-by, goal-same, goal_terms-by, instance_by, atom_by, row_terms-by, rows-by, rows-same, rows_by, step_terms-by, steps-by, steps-same}
use Rattle.px_general.proofs.Marked.{mark_by, mark_terms, mark_terms-in, marks-by}
use Rattle.px_general.proofs.Numbered.{numbers-stay, parameter-occurs}
use Rattle.px_general.proofs.Reading.{flat_map-mapped, item-left, less_or_not, lists-one, lt-false, lt-true}
use Rattle.px_general.proofs.Renaming.{IsTableBy, above-back, below-back, is_renamed, length-numbers, numbers_from, of-goal, of-rows, of-steps, put-own, put-parameter, put-past, read-numbers, read_back, renamed, term_of_more}

-- the terms of a table's steps, goal and proofs
abbrev own_terms : Table → List Term
own_terms table = step_terms table.steps ++ (goal_terms table.goal ++ row_terms (rows_of table.proofs))

-- each is one of the problem's over the parameters and the goal's own variables
own-term : (problem : Problem) (table : Table) → IsTable problem table → (t : Term) → Contains (own_terms table) t
    → IsTermOf problem (table.params + table.goal_variable_count) t
own-term problem table is_table t has =
    elim (Contains-append_cases (step_terms table.steps) (goal_terms table.goal ++ row_terms (rows_of table.proofs)) t has) [
      | inl in_steps ↦ term_of_more problem table.params table.goal_variable_count t (of-steps problem table is_table t in_steps)
      | inr later ↦ elim (Contains-append_cases (goal_terms table.goal) (row_terms (rows_of table.proofs)) t later) [
        | inl in_goal ↦ of-goal problem table is_table t in_goal
        | inr in_rows ↦ term_of_more problem table.params table.goal_variable_count t (of-rows problem table is_table t in_rows)
      ]
    ]

-- the marks have no others
occurs-own : (problem : Problem) (table : Table) → IsTable problem table → (t : Term) → Contains (terms_in table) t
    → Contains (own_terms table) t
occurs-own problem table is_table t has = elim (Contains-append_cases (mark_terms table.marks) (own_terms table) t has) [
  | inl in_marks ↦
      Contains-append_right (step_terms table.steps) (goal_terms table.goal ++ row_terms (rows_of table.proofs)) t
      (Contains-append_right (goal_terms table.goal) (row_terms (rows_of table.proofs)) t
      (mark_terms-in 1 (rows_of table.proofs) t (subst (λ (l : List Mark). Contains (mark_terms l) t) is_table.marks in_marks)))
  | inr own ↦ own
]

own_terms-by : (f : Term → Term) (from to : Table) → IsTableBy f from to → own_terms to ≡ map f (own_terms from)
own_terms-by f from to by =
    let steps : step_terms to.steps ≡ map f (step_terms from.steps) = ap step_terms (sym by.steps) ∙ step_terms-by f from.steps in
    let goal : goal_terms to.goal ≡ map f (goal_terms from.goal) = ap goal_terms (sym by.goal) ∙ goal_terms-by f from.goal in
    let rows : row_terms (rows_of to.proofs) ≡ map f (row_terms (rows_of from.proofs)) =
    ap row_terms (sym by.rows) ∙ row_terms-by f (rows_of from.proofs) in
    ap (λ l. l ++ (goal_terms to.goal ++ row_terms (rows_of to.proofs))) steps
    ∙ ap (λ l. map f (step_terms from.steps) ++ l) (ap (λ l. l ++ row_terms (rows_of to.proofs)) goal
    ∙ ap (λ l. map f (goal_terms from.goal) ++ l) rows ∙ sym (map-append f (goal_terms from.goal) (row_terms (rows_of from.proofs))))
    ∙ sym (map-append f (step_terms from.steps) (goal_terms from.goal ++ row_terms (rows_of from.proofs)))

map-twice : {A : Type 0} (g f : A → A) (xs : List A) → map g (map f xs) ≡ map (λ x. g (f x)) xs
map-twice g f [] = refl
map-twice g f (x ∷ xs) = ap (λ l. g (f x) ∷ l) (map-twice g f xs)

proofs-one : (rows others : List (List Proof)) → rows_of rows ≡ rows_of others → rows ≡ others
proofs-one rows others same =
    lists-one (map derivation_of) rows others (λ row other has there is. lists-one derivation_of row other
    (λ p q in_row in_other e. derivations_tell_proofs p q e) is) same

-- ---- of two tables that are each the other renamed

module _ (problem : Problem) (one other : Table) (is_one : IsTable problem one) (is_other : IsTable problem other) (objects others : List ℕ)
    (count : length objects ≡ one.params) (other_count : length others ≡ other.params)
    (by : IsTableBy (renamed problem.objects other.params objects one.goal_variable_count) one other)
    (back : IsTableBy (renamed problem.objects one.params others other.goal_variable_count) other one)
    (numbered : each_once term_eq (filter (is_parameter one.params) (terms_in one)) ≡ variables one.params)
    (renumbered : each_once term_eq (filter (is_parameter other.params) (terms_in other)) ≡ variables other.params) where
  abbrev there : Term → Term
  there = renamed problem.objects other.params objects one.goal_variable_count

  abbrev again : Term → Term
  again = renamed problem.objects one.params others other.goal_variable_count

  -- there and back again is where it was
  round : (t : Term) → Contains (own_terms one) t → again (there t) ≡ t
  round = item-left (λ t. again (there t)) (own_terms one)
      (sym (own_terms-by again other one back ∙ ap (map again) (own_terms-by there one other by) ∙ map-twice again there (own_terms one)))

  apart : (t u : Term) → Contains (own_terms one) t → Contains (own_terms one) u → there t ≡ there u → t ≡ u
  apart t u has in_too same = sym (round t has) ∙ ap again same ∙ round u in_too

  -- an object from the problem is none of the parameters
  object-stays : (n : ℕ) → n < problem.objects → there (Obj n) ≡ Obj n
  object-stays n below = below-back problem.objects other.params n below

  own-moves : (j : ℕ) → j < one.goal_variable_count → there (Var (one.params + j)) ≡ Var (other.params + j)
  own-moves j below = ap (read_back problem.objects other.params) (put-own objects one.params one.goal_variable_count count j below)

  -- what is read back as a parameter was one
  reads-parameter : (v w : ℕ) → v < one.params → again (Var w) ≡ Var v → w < other.params
  reads-parameter v w below reads = elim (less_or_not w other.params) [
    | inl inside ↦ inside
    | inr outside ↦
        let place : other.params + (w - other.params) ≡ w = omega (arith, outside) in
        let here : again (Var (other.params + (w - other.params))) ≡ Var v = subst (λ x. again (Var x) ≡ Var v) (sym place) reads in
        elim (less_or_not (w - other.params) other.goal_variable_count) [
          | inl own ↦
              let number : one.params + (w - other.params) ≡ v =
              variable_number (sym (ap (read_back problem.objects one.params)
              (put-own others other.params other.goal_variable_count other_count (w - other.params) own)) ∙ here) in
              absurd (omega (arith, number, below))
          | inr past ↦ absurd (no_wild (sym (ap (read_back problem.objects one.params)
              (put-past others other.params other.goal_variable_count other_count (w - other.params) past)) ∙ here))
        ]
  ]
    where
      variable_number : {a b : ℕ} → Var a ≡ Var b → a ≡ b
      variable_number e = cc

      no_wild : {a : ℕ} → ¬ (WildCard ≡ Var a)
      no_wild e = cc

  parameter-moves : (v : ℕ) → v < one.params → (w : ℕ) × (w < other.params) × (there (Var v) ≡ Var w)
  parameter-moves v below =
      let has = occurs-own problem one is_one (Var v) (parameter-occurs one.params (terms_in one) numbered v below) in
      let put = put-parameter objects one.params one.goal_variable_count count v below in
      let n : ℕ = slice_index objects v in
      elim (less_or_not n problem.objects) [
        | inl old ↦
            let moved : there (Var v) ≡ Obj n =
            ap (read_back problem.objects other.params) put ∙ below-back problem.objects other.params n old in
            absurd (no_object (sym (ap again moved ∙ below-back problem.objects one.params n old) ∙ round (Var v) has))
        | inr new ↦
            let moved : there (Var v) ≡ Var (n - problem.objects) =
            ap (read_back problem.objects other.params) put ∙ above-back problem.objects other.params n new in
            (n - problem.objects, reads-parameter v (n - problem.objects) below (sym (ap again moved) ∙ round (Var v) has), moved)
      ]
    where
      no_object : {a b : ℕ} → ¬ (Obj a ≡ Var b)
      no_object e = cc

  alike : (t : Term) → Contains (own_terms one) t → is_parameter other.params (there t) ≡ is_parameter one.params t
  alike t has = by_term t (own-term problem one is_one t has)
    where
      by_term : (t : Term) → IsTermOf problem (one.params + one.goal_variable_count) t
          → is_parameter other.params (there t) ≡ is_parameter one.params t
      by_term (Obj n) is = ap (is_parameter other.params) (object-stays n is)
      by_term WildCard is = absurd is
      by_term (Var v) is = elim (less_or_not v one.params) [
        | inl inside ↦
            let moved = parameter-moves v inside in
            ap (is_parameter other.params) moved.2 ∙ lt-true moved.0 other.params moved.1 ∙ sym (lt-true v one.params inside)
        | inr outside ↦
            let place : one.params + (v - one.params) ≡ v = omega (arith, outside) in
            subst (λ x. is_parameter other.params (there (Var x)) ≡ is_parameter one.params (Var x)) place
            (ap (is_parameter other.params) (own-moves (v - one.params) (omega (arith, is, outside)))
            ∙ lt-false (other.params + (v - one.params)) other.params (omega arith)
            ∙ sym (lt-false (one.params + (v - one.params)) one.params (omega arith)))
      ]

  marks-are : other.marks ≡ map (mark_by there) one.marks
  marks-are =
      is_other.marks ∙ ap (marks_from 1) (sym by.rows)
      ∙ marks-by there 1 (rows_of one.proofs) (λ t u has in_too. apart t u (in_rows t has) (in_rows u in_too))
      ∙ ap (map (mark_by there)) (sym is_one.marks)
    where
      in_rows : (t : Term) → Contains (row_terms (rows_of one.proofs)) t → Contains (own_terms one) t
      in_rows t has =
          Contains-append_right (step_terms one.steps) (goal_terms one.goal ++ row_terms (rows_of one.proofs)) t
          (Contains-append_right (goal_terms one.goal) (row_terms (rows_of one.proofs)) t has)

  terms-are : terms_in other ≡ map there (terms_in one)
  terms-are =
      let marks : mark_terms other.marks ≡ map there (mark_terms one.marks) =
      ap mark_terms marks-are ∙ flat_map-mapped (λ (m : Mark). m.atom.args) (mark_by there) (λ (m : Mark). m.atom.args) there
      (λ m. refl) one.marks in
      ap (λ l. l ++ own_terms other) marks ∙ ap (λ l. map there (mark_terms one.marks) ++ l) (own_terms-by there one other by)
      ∙ sym (map-append there (mark_terms one.marks) (own_terms one))

  numbers : (one.params ≡ other.params) × ((v : ℕ) → v < one.params → there (Var v) ≡ Var v)
  numbers =
      numbers-stay there one.params other.params (terms_in one)
      (λ t has. alike t (occurs-own problem one is_one t has))
      (λ t u has in_too. apart t u (occurs-own problem one is_one t has) (occurs-own problem one is_one u in_too))
      numbered (ap (λ l. each_once term_eq (filter (is_parameter other.params) l)) (sym terms-are) ∙ renumbered)

  -- so no term moves
  left : (t : Term) → IsTermOf problem (one.params + one.goal_variable_count) t → there t ≡ t
  left (Obj n) is = object-stays n is
  left WildCard is = absurd is
  left (Var v) is = elim (less_or_not v one.params) [
    | inl inside ↦ numbers.1 v inside
    | inr outside ↦
        let place : one.params + (v - one.params) ≡ v = omega (arith, outside) in
        subst (λ x. there (Var x) ≡ Var x) place (own-moves (v - one.params) (omega (arith, is, outside))
        ∙ ap (λ n. Var (n + (v - one.params))) (sym numbers.0))
  ]

  pub same_tables : one.goal_variable_count ≡ other.goal_variable_count → one.param_sorts ≡ sorts_by_places problem one.steps one.params
      → other.param_sorts ≡ sorts_by_places problem other.steps other.params → one ≡ other
  same_tables goal_variable_count sorts_one sorts_other =
      let steps : one.steps ≡ other.steps =
      sym (steps-by there (λ t. t) (λ t. t) one.steps
      (λ t has. left t (term_of_more problem one.params one.goal_variable_count t (of-steps problem one is_one t has))) ∙ steps-same one.steps)
      ∙ ap (map (instance_by there)) (steps-same one.steps) ∙ by.steps in
      let goal : one.goal ≡ other.goal =
      sym (goal-by there (λ t. t) (λ t. t) one.goal (λ t has. left t (of-goal problem one is_one t has)) ∙ goal-same one.goal)
      ∙ ap (map (atom_by there)) (goal-same one.goal) ∙ by.goal in
      let rows : rows_of one.proofs ≡ rows_of other.proofs =
      sym (rows-by there (λ t. t) (λ t. t) (rows_of one.proofs)
      (λ t has. left t (term_of_more problem one.params one.goal_variable_count t (of-rows problem one is_one t has)))
      ∙ rows-same (rows_of one.proofs))
      ∙ ap (rows_by there) (rows-same (rows_of one.proofs)) ∙ by.rows in
      let marks : one.marks ≡ other.marks = is_one.marks ∙ ap (marks_from 1) rows ∙ sym is_other.marks in
      let proofs : one.proofs ≡ other.proofs = proofs-one one.proofs other.proofs rows in
      let params = numbers.0 in
      let sorts : one.param_sorts ≡ other.param_sorts =
      sorts_one ∙ ap (λ (s : List OpInst). sorts_by_places problem s one.params) steps ∙ ap (sorts_by_places problem other.steps) params
      ∙ sym sorts_other in
      λ i. record {
        params = params i;
        steps = steps i;
        goal = goal i;
        goal_variable_count = goal_variable_count i;
        marks = marks i;
        proofs = proofs i;
        param_sorts = sorts i;
      }

-- ---- the law

-- what stands behind a list
read-behind : (sorts more : List ℕ) (n v : ℕ) → n ≡ length sorts → slice_index (sorts ++ more) (n + v) ≡ slice_index more v
read-behind [] more n v count = ap (slice_index more) (omega (arith, count))
read-behind (s ∷ sorts) more zero v count = absurd (omega (arith, count))
read-behind (s ∷ sorts) more (suc n) v count =
    let later : suc n + v ≡ suc (n + v) = omega arith in
    ap (slice_index (s ∷ (sorts ++ more))) later ∙ read-behind sorts more n v (omega (arith, count))

-- new objects fit where they have just the sorts of the parameters
new-fit : (problem : Problem) → IsValid problem → (table : Table)
    → ParametersFit (problem.object_sorts ++ table.param_sorts) table (numbers_from problem.objects table.params)
new-fit problem valid table v below other =
    ap (slice_index (problem.object_sorts ++ table.param_sorts))
    (read-numbers problem.objects table.params v (omega (arith, below, length-numbers problem.objects table.params)))
    ∙ read-behind problem.object_sorts table.param_sorts problem.objects v (sym valid.sorts.0)

-- the instance of the one by new objects is an instance of the other
shared : (problem : Problem) (plan one other : Table) → IsValid problem → IsTable problem plan → IsProper problem plan [] 1
    → Generalises problem plan one → Generalises problem plan other
    → (objects : List ℕ) × (length objects ≡ other.params)
    × IsTableBy (renamed problem.objects one.params objects other.goal_variable_count) other one
shared problem plan one other valid is_table proper is_one is_other =
    let new : List ℕ = numbers_from problem.objects one.params in
    let own = has_instance problem plan is_table is_one.no_params proper one is_one in
    let new_is_proper = new-proper problem valid one is_one.table own.0 own.1.count own.1.proper in
    let supports =
    is_one.sound one.param_sorts new (kernel_under one new 1) (steps_under one new) (goal_under one new) (rows_under one new)
    (record {
      count = length-numbers problem.objects one.params;
      fitting = new-fit problem valid one;
      proper = new_is_proper;
      steps_are = refl;
      goal_is = refl;
      rows_are = refl;
      kernel = All-contains_itself (kernel_under one new 1);
    }) in
    let found =
    is_other.all one.param_sorts (kernel_under one new 1) (steps_under one new) (goal_under one new) (rows_under one new) supports.0
    supports.1 supports.2 in (
      found.0,
      found.1.count,
      is_renamed problem one other is_one.table is_other.table found.0 found.1.count found.1.steps_are
          found.1.goal_is found.1.rows_are,
    )

pub general_is_one : GeneralIsOne
general_is_one problem plan one other valid is_table proper is_one is_other =
    let back = shared problem plan one other valid is_table proper is_one is_other in
    let by = shared problem plan other one valid is_table proper is_other is_one in
    same_tables problem one other is_one.table is_other.table by.0 back.0 by.1 back.1 by.2 back.2 is_one.numbered is_other.numbered
    (is_one.goal_variable_count ∙ sym is_other.goal_variable_count) (sorts_of_places-computed problem one is_one.sorts)
    (sorts_of_places-computed problem other is_other.sorts)
