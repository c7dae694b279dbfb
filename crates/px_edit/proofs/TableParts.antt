-- The parts of a table, and what they are with other names for their parameters.
use Rattle.std.specs.Prelude.{◌≡◌, ◌≢◌, ◌+◌, ◌<◌, ◌≤◌, ℕ, Some, List, [], ◌∷◌, ◌++◌, map, length, flat_map, slice_get, slice_index, slice_index_or, All, Contains}
use Rattle.std.proofs.Common.{zero, suc, refl, sym, ap, ◌∙◌, subst, inl, inr, arith}
use Rattle.std.proofs.lemmas.List.{length-map, get_or-map, map-append}
use Rattle.std.proofs.lemmas.List.FromFn.{get_or-map-range_with_len}
use Rattle.std.proofs.lemmas.List.Elements.{All-map, Contains-append_left, Contains-append_right, Contains-append_cases}
use Rattle.px_base.specs.Answers.{some_same}
use Rattle.px_base.specs.Bounds.{u32_max}
use Rattle.px_base.specs.ListLaws.{All-at, All-each, Contains-none, Contains-first, Contains-later, Contains-cases}
use Rattle.px_terms.specs.declared.atom.Atom.{Atom}
use Rattle.px_terms.specs.declared.instance.OpInst.{OpInst}
use Rattle.px_terms.specs.declared.problem.Problem.{Problem}
use Rattle.px_terms.specs.declared.term.Term.{Term}
use Rattle.px_terms.specs.declared.term.Term.TheVariants.{Obj, Var, Any as WildCard}
use Rattle.px_terms.specs.Language.{substitute}
use Rattle.px_terms.specs.Operators.{adds, schema_of}
use Rattle.px_terms.specs.Sorts.{IsOfSort}
use Rattle.px_terms.specs.Substitution.{substitute_atom, substitute_instance}
use Rattle.px_terms.specs.Validity.{AreSortsOf, IsAtomOf, IsTermOf, IsValid}
use Rattle.px_proof.specs.declared.proof.Leaf.{Leaf}
use Rattle.px_proof.specs.Derivation.{Derivation, leaves_of, terms_of}
use Rattle.px_proof.specs.PlaceLaws.{Contains-mapped, slice_get-map, slice_get-within}
use Rattle.px_proof.specs.Proves.{IsObjectOrParameter}
use Rattle.px_proof.specs.Substitution.{derivation_under, leaf_under}
use Rattle.px_proof.specs.SubstitutionLaws.{leaves-under}
use Rattle.px_table.specs.declared.mark.Mark.{Mark}
use Rattle.px_table.specs.declared.table.Table.{Table}
use Rattle.px_table.specs.KernelLaws.{Contains-from_map}
use Rattle.px_table.specs.Marks.{IsNamed, mark_of, marks_from, row_leaves, row_marks, step_at}
use Rattle.px_table.specs.Parameters.{goal_terms, row_terms, step_terms}
use Rattle.px_table.specs.RowLaws.{leaf_marked}
use Rattle.px_table.specs.Supports.{RowsProve}
use Rattle.px_table.specs.Tables.{IsStepOf, IsTable, rows_of}
use Rattle.px_table.specs.UnderLaws.{adds-under, from_map, step_at-map}
use Rattle.px_table.specs.WellSorted.{IsWellSortedStep, IsWellSortedTable, first_sort, paired, sort_places, sorts_by_places}
use Rattle.px_table.specs.WellSortedLaws.{first_sort-some, first_sort-stands, paired-place, sorts_by_places-are}
use Rattle.px_edit.specs.Editing.{names_by, parameters_in, terms_of_parts}
use Rattle.px_edit.proofs.Lists.{Contains-flat_map, Contains-from_flat_map, mark-at, there_at}
use Rattle.px_edit.proofs.Names.{parameter-named}
use Rattle.px_edit.proofs.Restricting.{rows-named}

-- steps, a goal without variables of its own and rows that make a table over these parameters of these sorts
pub record AreTableParts (problem : Problem) (params : ℕ) (param_sorts : List ℕ) (steps : List OpInst) (goal : List Atom)
    (rows : List (List Derivation)) : Type 0 where
  pub short : length steps < u32_max
  pub steps_are : All (IsStepOf problem params) steps
  pub goal_is : All (IsAtomOf problem params) goal
  pub prove : RowsProve (IsObjectOrParameter problem.objects params) problem params steps goal 0 rows
  pub atoms : All (λ (mark : Mark). IsAtomOf problem params mark.atom) (marks_from 1 rows)
  pub named : All (IsNamed problem steps) (marks_from 1 rows)
  pub sorted : All (IsWellSortedStep problem param_sorts) steps

-- ---- marks of rows under names

abbrev pub mark_named : List Term → Mark → Mark
mark_named names mark = record { atom = substitute_atom names mark.atom; row = mark.row; column = mark.column; index = mark.index }

pub row_leaves-named : (names : List Term) (row : List Derivation)
    → row_leaves (map (derivation_under names) row) ≡ map (leaf_under names) (row_leaves row)
row_leaves-named names [] = refl
row_leaves-named names (d ∷ row) =
    ap (λ l. l ++ row_leaves (map (derivation_under names) row)) (leaves-under names d)
    ∙ ap (λ l. map (leaf_under names) (leaves_of d) ++ l) (row_leaves-named names row)
    ∙ sym (map-append (leaf_under names) (leaves_of d) (row_leaves row))

-- each mark of the named rows is that of a mark of the rows
pub from_marks-named : (names : List Term) (rows : List (List Derivation)) (mark : Mark)
    → Contains (marks_from 1 (map (map (derivation_under names)) rows)) mark
    → (m : Mark) × Contains (marks_from 1 rows) m × (mark_named names m ≡ mark)
from_marks-named names rows mark has =
    let found = mark-at 1 (map (map (derivation_under names)) rows) mark has in
    let row = from_map (map (derivation_under names)) rows found.place found.row found.at in
    let leaf =
    Contains-from_map (leaf_under names) (row_leaves row.0) found.leaf
    (subst (λ (l : List Leaf). Contains l found.leaf) (row_leaves-named names row.0)
    (subst (λ (r : List Derivation). Contains (row_leaves r) found.leaf) (sym row.2) found.has)) in (
      mark_of (1 + found.place) leaf.0,
      leaf_marked 1 found.place (1 + found.place) rows row.0 leaf.0 refl row.1 leaf.1,
      ap (mark_of (1 + found.place)) leaf.2 ∙ found.is,
    )

-- and the mark of each mark is one of the named rows
pub to_marks-named : (names : List Term) (rows : List (List Derivation)) (mark : Mark) → Contains (marks_from 1 rows) mark
    → Contains (marks_from 1 (map (map (derivation_under names)) rows)) (mark_named names mark)
to_marks-named names rows mark has =
    let found = mark-at 1 rows mark has in
    let row : List Derivation = map (derivation_under names) found.row in
    let leaf : Contains (row_leaves row) (leaf_under names found.leaf) =
    subst (λ (l : List Leaf). Contains l (leaf_under names found.leaf)) (sym (row_leaves-named names found.row))
    (Contains-mapped (leaf_under names) (row_leaves found.row) found.leaf found.has) in
    subst (λ (m : Mark). Contains (marks_from 1 (map (map (derivation_under names)) rows)) (mark_named names m)) found.is
    (leaf_marked 1 found.place (1 + found.place) (map (map (derivation_under names)) rows) row (leaf_under names found.leaf) refl
    (slice_get-map (map (derivation_under names)) rows found.place found.row found.at) leaf)

named-under : (problem : Problem) (names : List Term) (steps : List OpInst) (mark : Mark) → IsNamed problem steps mark
    → IsNamed problem (map (substitute_instance names) steps) (mark_named names mark)
named-under problem names steps mark named = record {
  earlier = named.earlier;
  initial = named.initial;
  added = λ later.
      let add = named.added later in (
        substitute_instance names add.0,
        step_at-map (substitute_instance names) steps mark.column add.0 add.1,
        ap (λ (l : List Atom). slice_get l mark.index) (adds-under problem names add.0)
            ∙ slice_get-map (substitute_atom names) (adds problem add.0) mark.index mark.atom add.2,
      );
}

-- ---- an argument at a place that has a sort is in the list of arguments beside their sorts

sorted-paired : (wanted : List ℕ) (args : List Term) (k : ℕ) → k < length args → slice_index wanted k ≢ 0
    → Contains (paired wanted args) (slice_index wanted k, slice_index_or args k WildCard)
sorted-paired [] args k below sorted = absurd (sorted refl)
sorted-paired (w ∷ wanted) [] k below sorted = absurd (omega (arith, below))
sorted-paired (w ∷ wanted) (t ∷ args) zero below sorted = Contains-first (w, t) (paired wanted args)
sorted-paired (w ∷ wanted) (t ∷ args) (suc k) below sorted =
    Contains-later (w, t) (paired wanted args) _ (sorted-paired wanted args k (omega (arith, below)) sorted)

-- ---- the parts with names for those of their parameters that occur

module _ (problem : Problem) (valid : IsValid problem) (params : ℕ) (param_sorts : List ℕ) (steps : List OpInst) (goal : List Atom)
    (rows : List (List Derivation)) (are : AreTableParts problem params param_sorts steps goal rows) where
  abbrev pub the_terms : List Term
  the_terms = terms_of_parts steps goal rows

  abbrev pub the_left : List Term
  the_left = parameters_in params the_terms

  abbrev pub the_names : List Term
  the_names = names_by params the_left

  abbrev Left : Term → Type 0
  Left t = Contains the_terms t

  abbrev new : ℕ
  new = length the_left

  abbrev mark_terms : List Term
  mark_terms = flat_map (λ (mark : Mark). mark.atom.args) (marks_from 1 rows)

  goes : (t : Term) → Left t → IsTermOf problem params t → IsTermOf problem new (substitute the_names t)
  goes (Obj n) has is = is
  goes (Var v) has is =
      let named = parameter-named params the_terms v is has in
      subst (IsTermOf problem new) (sym named.name_is)
      (omega (arith, slice_get-within the_left named.place (Var v) named.at))
  goes WildCard has is = absurd is

  same_number : {a b : ℕ} → Var a ≡ Var b → a ≡ b
  same_number e = cc

  -- a term that is named like a parameter is that parameter
  pub apart : (v : ℕ) (t : Term) → v < params → Left (Var v) → Left t → IsTermOf problem params t
      → substitute the_names t ≡ substitute the_names (Var v) → t ≡ Var v
  apart v (Obj n) below has there is same = absurd (no_object n _ (same ∙ (parameter-named params the_terms v below has).name_is))
    where
      no_object : (n p : ℕ) → ¬ (Obj n ≡ Var p)
      no_object n p e = cc
  apart v (Var w) below has there is same =
      let one = parameter-named params the_terms v below has in
      let other = parameter-named params the_terms w is there in
      let place : other.place ≡ one.place =
      omega (arith, same_number (sym other.name_is ∙ same ∙ one.name_is)) in
      some_same (sym other.at ∙ ap (slice_get the_left) place ∙ one.at)
  apart v WildCard below has there is same = absurd is

  pub of-step : (s : OpInst) (t : Term) → Contains steps s → Contains s.args t → Left t
  of-step s t has here =
      Contains-append_right mark_terms _ t
      (Contains-append_left (step_terms steps) _ t (Contains-flat_map (λ (x : OpInst). x.args) steps s t has here))

  of-goal : (a : Atom) (t : Term) → Contains goal a → Contains a.args t → Left t
  of-goal a t has here =
      Contains-append_right mark_terms _ t
      (Contains-append_right (step_terms steps) _ t
      (Contains-append_left (goal_terms goal) (row_terms rows) t (Contains-flat_map (λ (x : Atom). x.args) goal a t has here)))

  pub of-mark : (m : Mark) (t : Term) → Contains (marks_from 1 rows) m → Contains m.atom.args t → Left t
  of-mark m t has here =
      Contains-append_left mark_terms _ t (Contains-flat_map (λ (x : Mark). x.atom.args) (marks_from 1 rows) m t has here)

  of-rows : All Left (row_terms rows)
  of-rows = All-each Left (row_terms rows) (λ t has.
      Contains-append_right mark_terms _ t
      (Contains-append_right (step_terms steps) _ t (Contains-append_right (goal_terms goal) (row_terms rows) t has)))

  args-named : (ts : List Term) → ((t : Term) → Contains ts t → Left t) → All (IsTermOf problem params) ts
      → All (IsTermOf problem new) (map (substitute the_names) ts)
  args-named ts left all = All-map (IsTermOf problem new) (substitute the_names) ts
      (All-each (λ t. IsTermOf problem new (substitute the_names t)) ts
      (λ t has. goes t (left t has) (All-at (IsTermOf problem params) ts t all has)))

  step-named : (s : OpInst) → Contains steps s → IsStepOf problem new (substitute_instance the_names s)
  step-named s has =
      let is = All-at (IsStepOf problem params) steps s are.steps_are has in
      record {
        op = is.op;
        count = length-map s.args (substitute the_names) ∙ is.count;
        terms = args-named s.args (λ t here. of-step s t has here) is.terms;
      }

  atom-named : (a : Atom) → ((t : Term) → Contains a.args t → Left t) → IsAtomOf problem params a
      → IsAtomOf problem new (substitute_atom the_names a)
  atom-named a left is = ((is.0.0, length-map a.args (substitute the_names) ∙ is.0.1), args-named a.args left is.1)

  steps-named : All (IsStepOf problem new) (map (substitute_instance the_names) steps)
  steps-named = All-map (IsStepOf problem new) (substitute_instance the_names) steps
      (All-each (λ s. IsStepOf problem new (substitute_instance the_names s)) steps step-named)

  goal-named : All (IsAtomOf problem new) (map (substitute_atom the_names) goal)
  goal-named = All-map (IsAtomOf problem new) (substitute_atom the_names) goal
      (All-each (λ a. IsAtomOf problem new (substitute_atom the_names a)) goal
      (λ a has. atom-named a (λ t here. of-goal a t has here) (All-at (IsAtomOf problem params) goal a are.goal_is has)))

  -- ---- sorts

  abbrev new_steps : List OpInst
  new_steps = map (substitute_instance the_names) steps

  -- a place of the named steps is one of the steps, named
  paired-named : (wanted : List ℕ) (args : List Term) (w : ℕ) (t : Term)
      → Contains (paired wanted (map (substitute the_names) args)) (w, t)
      → (u : Term) × Contains (paired wanted args) (w, u) × (substitute the_names u ≡ t)
  paired-named [] args w t has = absurd (Contains-none (w, t) has)
  paired-named (s ∷ wanted) [] w t has = absurd (Contains-none (w, t) has)
  paired-named (s ∷ wanted) (a ∷ args) w t has =
      elim (Contains-cases (s, substitute the_names a) (paired wanted (map (substitute the_names) args)) (w, t) has) [
        | inl here ↦ (
          a,
          subst (λ (n : ℕ). Contains (paired (s ∷ wanted) (a ∷ args)) (n, a)) (ap (λ (p : ℕ × Term). p.0) here)
              (Contains-first (s, a) (paired wanted args)),
          ap (λ (p : ℕ × Term). p.1) here,
        )
        | inr later ↦
            let rest = paired-named wanted args w t later in
            (rest.0, Contains-later (s, a) (paired wanted args) (w, rest.0) rest.1, rest.2)
      ]

  -- the place of a step's argument beside its sort
  pub record IsPlaceOf (w : ℕ) (t : Term) : Type 0 where
    pub inst : OpInst
    pub has : Contains steps inst
    pub place : ℕ
    pub within : place < length inst.args
    pub here : slice_index_or inst.args place WildCard ≡ t
    pub sorted : slice_index (schema_of problem inst).param_sorts place ≡ w

  place-of : (w : ℕ) (t : Term) → Contains (sort_places problem new_steps) (w, t)
      → (u : Term) × IsPlaceOf w u × (substitute the_names u ≡ t)
  place-of w t has =
      let step = Contains-from_flat_map (λ (s : OpInst). paired (schema_of problem s).param_sorts s.args) new_steps (w, t) has in
      let old = Contains-from_map (substitute_instance the_names) steps step.0 step.1 in
      let there =
      paired-named (schema_of problem old.0).param_sorts old.0.args w t
      (subst (λ (s : OpInst). Contains (paired (schema_of problem s).param_sorts s.args) (w, t)) (sym old.2) step.2) in
      let found = paired-place (schema_of problem old.0).param_sorts old.0.args w there.0 there.1 in (
        there.0,
        record { inst = old.0; has = old.1; place = found.0; within = found.1; here = found.2; sorted = found.3 },
        there.2,
      )

  arg-term : (s : OpInst) (k : ℕ) → Contains steps s → k < length s.args → IsTermOf problem params (slice_index_or s.args k WildCard)
  arg-term s k has below = (All-at (IsStepOf problem params) steps s are.steps_are has).terms k WildCard below

  arg-left : (s : OpInst) (k : ℕ) → Contains steps s → k < length s.args → Left (slice_index_or s.args k WildCard)
  arg-left s k has below = of-step s (slice_index_or s.args k WildCard) has (k, below, refl_at s.args k below)
    where
      refl_at : (xs : List Term) (k : ℕ) → k < length xs
          → slice_index_or xs k (slice_index_or xs k WildCard) ≡ slice_index_or xs k WildCard
      refl_at [] k below = absurd (omega (arith, below))
      refl_at (x ∷ xs) zero below = refl
      refl_at (x ∷ xs) (suc k) below = refl_at xs k (omega (arith, below))

  -- at a sorted place of the steps a parameter has the sort of the place
  place-sort : (v w : ℕ) → w ≢ 0 → IsPlaceOf w (Var v) → slice_index param_sorts v ≡ w
  place-sort v w other at =
      let stands = All-at (IsWellSortedStep problem param_sorts) steps at.inst are.sorted at.has at.place at.within in
      subst (λ (t : Term). IsOfSort problem.object_sorts param_sorts (slice_index (schema_of problem at.inst).param_sorts at.place) t)
      at.here stands (λ e. other (sym at.sorted ∙ e))
      ∙ at.sorted

  abbrev new_sorts : List ℕ
  new_sorts = sorts_by_places problem new_steps new

  stands : (s : OpInst) (k : ℕ) → Contains steps s → (below : k < length s.args) → (t : Term) → slice_index_or s.args k WildCard ≡ t
      → IsTermOf problem params t
      → Left t → IsOfSort problem.object_sorts param_sorts (slice_index (schema_of problem s).param_sorts k) t
      → IsOfSort problem.object_sorts new_sorts (slice_index (schema_of problem s).param_sorts k) (substitute the_names t)
  stands s k has below (Obj n) is term left fits = fits
  stands s k has below (Var v) is term left fits =
      let w = slice_index (schema_of problem s).param_sorts k in
      let named = parameter-named params the_terms v term left in
      subst (IsOfSort problem.object_sorts new_sorts w) (sym named.name_is) (λ other.
      sort-of named.place named.at named.name_is other)
    where
      here : (other : slice_index (schema_of problem s).param_sorts k ≢ 0) → (p : ℕ) → substitute the_names (Var v) ≡ Var p
          → Contains (sort_places problem new_steps) (slice_index (schema_of problem s).param_sorts k, Var p)
      here other p name_is =
          let wanted = (schema_of problem s).param_sorts in
          let args = map (substitute the_names) s.args in
          let inside : k < length args = omega (arith, below, length-map s.args (substitute the_names)) in
          let at : slice_index_or args k WildCard ≡ Var p =
          get_or-map (substitute the_names) s.args k WildCard WildCard below ∙ ap (substitute the_names) is ∙ name_is in
          Contains-flat_map (λ (x : OpInst). paired (schema_of problem x).param_sorts x.args) new_steps (substitute_instance the_names s)
          (slice_index wanted k, Var p) (Contains-mapped (substitute_instance the_names) steps s has)
          (subst (λ (t : Term). Contains (paired wanted args) (slice_index wanted k, t)) at (sorted-paired wanted args k inside other))

      sort-of : (p : ℕ) → slice_get the_left p ≡ Some (Var v) → substitute the_names (Var v) ≡ Var (0 + p)
          → slice_index (schema_of problem s).param_sorts k ≢ 0
          → slice_index new_sorts (0 + p) ≡ slice_index (schema_of problem s).param_sorts k
      sort-of p at name_is other =
          let w = slice_index (schema_of problem s).param_sorts k in
          let places = sort_places problem new_steps in
          let there = here other (0 + p) name_is in
          let first = first_sort places (0 + p) in
          let some : first ≢ 0 = first_sort-some places (0 + p) w there other in
          let found = place-of first (Var (0 + p)) (first_sort-stands places (0 + p) some) in
          let inside = found.1.within in
          let same : found.0 ≡ Var v =
          apart v found.0 term left
          (subst Left found.1.here (arg-left found.1.inst found.1.place found.1.has inside))
          (subst (IsTermOf problem params) found.1.here (arg-term found.1.inst found.1.place found.1.has inside))
          (found.2 ∙ sym name_is) in
          get_or-map-range_with_len (first_sort places) 0 new (0 + p) (0 + p) 0
          (omega (arith, slice_get-within the_left p (Var v) at)) (omega arith)
          ∙ sym (place-sort v first some (subst (IsPlaceOf first) same found.1))
          ∙ fits other
  stands s k has below WildCard is term left fits = absurd term

  step-sorted : (s : OpInst) → Contains steps s → IsWellSortedStep problem new_sorts (substitute_instance the_names s)
  step-sorted s has k below =
      let inside : k < length s.args = omega (arith, below, length-map s.args (substitute the_names)) in
      subst (IsOfSort problem.object_sorts new_sorts (slice_index (schema_of problem s).param_sorts k))
      (sym (get_or-map (substitute the_names) s.args k WildCard WildCard inside))
      (stands s k has inside (slice_index_or s.args k WildCard) refl (arg-term s k has inside) (arg-left s k has inside)
      (All-at (IsWellSortedStep problem param_sorts) steps s are.sorted has k inside))

  -- ---- all together

  pub parts-named : AreTableParts problem new new_sorts new_steps (map (substitute_atom the_names) goal)
      (map (map (derivation_under the_names)) rows)
  parts-named = record {
    short = omega (arith, are.short, length-map steps (substitute_instance the_names));
    steps_are = steps-named;
    goal_is = goal-named;
    prove = rows-named problem valid params new the_names Left goes steps goal rows are.goal_is steps-named goal-named of-rows are.prove;
    atoms = All-each (λ (mark : Mark). IsAtomOf problem new mark.atom) (marks_from 1 (map (map (derivation_under the_names)) rows)) (λ mark has.
        let from = from_marks-named the_names rows mark has in
        subst (λ (m : Mark). IsAtomOf problem new m.atom) from.2
        (atom-named from.0.atom (λ t here. of-mark from.0 t from.1 here)
        (All-at (λ (m : Mark). IsAtomOf problem params m.atom) (marks_from 1 rows) from.0 are.atoms from.1)));
    named = All-each (IsNamed problem new_steps) (marks_from 1 (map (map (derivation_under the_names)) rows)) (λ mark has.
        let from = from_marks-named the_names rows mark has in
        subst (IsNamed problem new_steps) from.2
        (named-under problem the_names steps from.0 (All-at (IsNamed problem steps) (marks_from 1 rows) from.0 are.named from.1)));
    sorted = All-map (IsWellSortedStep problem new_sorts) (substitute_instance the_names) steps
        (All-each (λ s. IsWellSortedStep problem new_sorts (substitute_instance the_names s)) steps step-sorted);
  }

-- ---- parts that make a table

pub table-of_parts : (problem : Problem) (table : Table) (params : ℕ) (steps : List OpInst) (goal : List Atom)
    (rows : List (List Derivation)) → IsValid problem
    → table.params ≡ params → table.param_sorts ≡ sorts_by_places problem table.steps table.params → table.steps ≡ steps → table.goal ≡ goal
    → table.goal_variable_count ≡ 0 → rows_of table.proofs ≡ rows → table.marks ≡ marks_from 1 (rows_of table.proofs)
    → AreTableParts problem params (sorts_by_places problem steps params) steps goal rows → IsTable problem table
table-of_parts problem table params steps goal rows valid params_are sorts_are steps_are goal_is none rows_are marks_are are =
    let marks : table.marks ≡ marks_from 1 rows = marks_are ∙ ap (marks_from 1) rows_are in
    let here : All (IsStepOf problem table.params) table.steps =
    subst (λ n. All (IsStepOf problem n) table.steps) (sym params_are) (subst (All (IsStepOf problem params)) (sym steps_are) are.steps_are) in
    let sorts = sorts_by_places-are problem table.steps table.params valid (λ k d below. (here k d below).op) in
    let own : table.param_sorts ≡ sorts_by_places problem steps params =
    sorts_are ∙ ap (λ (s : List OpInst). sorts_by_places problem s table.params) steps_are ∙ ap (sorts_by_places problem steps) params_are in
    let more : table.params + table.goal_variable_count ≡ params = omega (arith, params_are, none) in
    record {
      in_range = record {
        short = omega (arith, are.short, ap length steps_are);
        steps = here;
        goal = subst (λ n. All (IsAtomOf problem n) table.goal) (sym more) (subst (All (IsAtomOf problem params)) (sym goal_is) are.goal_is);
      };
      prove = prove_here table.params table.steps table.goal table.goal_variable_count (rows_of table.proofs) params_are steps_are goal_is none rows_are;
      marks = marks_are;
      atoms = subst (λ n. All (λ (mark : Mark). IsAtomOf problem n mark.atom) table.marks) (sym params_are)
          (subst (All (λ (mark : Mark). IsAtomOf problem params mark.atom)) (sym marks) are.atoms);
      named = subst (λ (s : List OpInst). All (IsNamed problem s) table.marks) (sym steps_are)
          (subst (All (IsNamed problem steps)) (sym marks) are.named);
      sorted = record {
        count = ap length sorts_are ∙ sorts.0;
        sorts = subst (AreSortsOf problem) (sym sorts_are) sorts.1;
        steps = subst (λ (l : List ℕ). All (IsWellSortedStep problem l) table.steps) (sym own)
            (subst (All (IsWellSortedStep problem (sorts_by_places problem steps params))) (sym steps_are) are.sorted);
      };
    }
  where
    prove_here : (n : ℕ) (s : List OpInst) (g : List Atom) (v : ℕ) (r : List (List Derivation)) → n ≡ params → s ≡ steps → g ≡ goal → v ≡ 0
        → r ≡ rows → RowsProve (IsObjectOrParameter problem.objects n) problem n s g v r
    prove_here n s g v r a b c d e =
        subst (λ m. RowsProve (IsObjectOrParameter problem.objects m) problem m s g v r) (sym a)
        (subst (λ (x : List OpInst). RowsProve (IsObjectOrParameter problem.objects params) problem params x g v r) (sym b)
        (subst (λ (x : List Atom). RowsProve (IsObjectOrParameter problem.objects params) problem params steps x v r) (sym c)
        (subst (λ m. RowsProve (IsObjectOrParameter problem.objects params) problem params steps goal m r) (sym d)
        (subst (RowsProve (IsObjectOrParameter problem.objects params) problem params steps goal 0) (sym e) are.prove))))
