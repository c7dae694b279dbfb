-- The kept steps, the wanted adds and their rows are parts of a table over the old parameters.
use Rattle.std.specs.Prelude.{◌≡◌, ◌≢◌, ◌⊎◌, ◌+◌, ◌-◌, ◌<◌, ◌≤◌, ℕ, Some, List, [], ◌∷◌, ◌++◌, map, length, slice_get, slice_index_or, All, Contains}
use Rattle.std.proofs.Common.{zero, suc, refl, sym, ap, ◌∙◌, subst, inl, inr, arith, length-append}
use Rattle.std.proofs.lemmas.List.{length-map}
use Rattle.std.proofs.lemmas.List.Elements.{All-map}
use Rattle.px_base.specs.Answers.{some_same}
use Rattle.px_base.specs.Bounds.{u32_max}
use Rattle.px_base.specs.ListLaws.{All-at, All-each, Contains-first, Contains-none}
use Rattle.px_terms.specs.declared.atom.Atom.{Atom}
use Rattle.px_terms.specs.declared.instance.OpInst.{OpInst}
use Rattle.px_terms.specs.declared.problem.Problem.{Problem}
use Rattle.px_terms.specs.declared.term.Term.{Term}
use Rattle.px_terms.specs.Operators.{adds, precondition}
use Rattle.px_terms.specs.Validity.{IsAtomOf, IsTermOf, IsValid}
use Rattle.px_proof.specs.declared.proof.Leaf.{Leaf}
use Rattle.px_proof.specs.Derivation.{Derivation, fact, leaf_atoms, leaves_of, no_atom}
use Rattle.px_proof.specs.PlaceLaws.{All-got, Contains-mapped, slice_get-map, slice_get-read, slice_get-within}
use Rattle.px_proof.specs.Proves.{IsObjectOrParameter}
use Rattle.px_proof.specs.ProvesLaws.{name_of_term}
use Rattle.px_table.specs.declared.mark.Mark.{Mark}
use Rattle.px_table.specs.declared.table.Table.{Table}
use Rattle.px_table.specs.KernelLaws.{Contains-from_map}
use Rattle.px_table.specs.Marks.{IsNamed, mark_of, marks_from, row_leaves, step_at}
use Rattle.px_table.specs.RowLaws.{leaf_marked}
use Rattle.px_table.specs.Supports.{ProvesEachOf, RowsProve}
use Rattle.px_table.specs.Tables.{IsStepOf, IsTable, rows_of}
use Rattle.px_table.specs.UnderLaws.{from_map}
use Rattle.px_table.specs.WellSorted.{IsWellSortedStep}
use Rattle.px_edit.specs.Editing.{AreKeptSteps, in_columns, kept_of, kept_rows, kept_steps, leaf_in_column, new_number, no_step, wanted_atom, wanted_atoms, wanted_fact}
use Rattle.px_edit.specs.EditCauses.{IsAddOf, IsEditable}
use Rattle.px_edit.proofs.Counting.{IsKeptColumn, column-cases, kept-few, number-at, place-before}
use Rattle.px_edit.proofs.InColumns.{row-columns, row_leaves-columns}
use Rattle.px_edit.proofs.Lists.{mark-at, place_of, read-at}
use Rattle.px_edit.proofs.Needed.{keeps_wanted, nothing_missed}
use Rattle.px_edit.proofs.StepAtoms.{adds-of_step, own-goal}
use Rattle.px_edit.proofs.TableParts.{AreTableParts}

-- ---- rows and steps of a table

pub rows-count : (Is : Term → Type 0) (problem : Problem) (params : ℕ) (goal : List Atom) (goal_variable_count : ℕ) (steps : List OpInst)
    (rows : List (List Derivation)) → RowsProve Is problem params steps goal goal_variable_count rows → length rows ≡ suc (length steps)
rows-count Is problem params goal goal_variable_count [] [] p = absurd p
rows-count Is problem params goal goal_variable_count [] (row ∷ []) p = refl
rows-count Is problem params goal goal_variable_count [] (row ∷ second ∷ rows) p = absurd p
rows-count Is problem params goal goal_variable_count (s ∷ steps) [] p = absurd p
rows-count Is problem params goal goal_variable_count (s ∷ steps) (row ∷ rows) p = ap suc (rows-count Is problem params goal goal_variable_count steps rows p.1)

row-proves : (Is : Term → Type 0) (problem : Problem) (params : ℕ) (goal : List Atom) (goal_variable_count : ℕ) (steps : List OpInst)
    (rows : List (List Derivation)) → RowsProve Is problem params steps goal goal_variable_count rows → (k : ℕ) → k < length steps
    → ProvesEachOf Is problem.axioms (precondition problem (slice_index_or steps k no_step)) (slice_index_or rows k [])
row-proves Is problem params goal goal_variable_count [] rows p k below = absurd (omega (arith, below))
row-proves Is problem params goal goal_variable_count (s ∷ steps) [] p k below = absurd p
row-proves Is problem params goal goal_variable_count (s ∷ steps) (row ∷ rows) p zero below = p.0
row-proves Is problem params goal goal_variable_count (s ∷ steps) (row ∷ rows) p (suc k) below =
    row-proves Is problem params goal goal_variable_count steps rows p.1 k (omega (arith, below))

-- the table has a row for each step and one for the goal
pub table-rows : (problem : Problem) (table : Table) → IsTable problem table → length (rows_of table.proofs) ≡ suc (length table.steps)
table-rows problem table is =
    rows-count (IsObjectOrParameter problem.objects table.params) problem table.params table.goal table.goal_variable_count table.steps
    (rows_of table.proofs) is.prove

module _ (problem : Problem) (valid : IsValid problem) (table : Table) (is : IsTable problem table) (prefix : ℕ) (wanted : List (ℕ × ℕ))
    (may : IsEditable problem table prefix wanted) (kept : List ℕ) (are : AreKeptSteps table wanted kept) where
  abbrev Is : Term → Type 0
  Is = IsObjectOrParameter problem.objects table.params

  abbrev pub old_rows : List (List Derivation)
  old_rows = rows_of table.proofs

  abbrev number : ℕ → ℕ
  number = new_number kept

  pub within : All (λ k. (1 ≤ k) × (k ≤ length table.steps)) kept
  within = λ k d below. let w = (keeps_wanted problem table prefix wanted is may kept are).1 k d below in
      (w.0, omega (arith, w.1, may.most))

  least : All (λ k. 1 ≤ k) kept
  least = λ k d below. (within k d below).0

  abbrev old_step : ℕ → OpInst
  old_step k = slice_index_or table.steps (k - 1) no_step

  read-here : {X : Type 0} (xs : List X) (k : ℕ) (d : X) → k < length xs → Contains xs (slice_index_or xs k d)
  read-here [] k d below = absurd (omega (arith, below))
  read-here (x ∷ xs) zero d below = Contains-first x xs
  read-here (x ∷ xs) (suc k) d below =
      let rest = read-here xs k d (omega (arith, below)) in (suc rest.0, omega (arith, rest.1), rest.2)

  has-step : (k : ℕ) → 1 ≤ k → k ≤ length table.steps → Contains table.steps (old_step k)
  has-step k low high = read-here table.steps (k - 1) no_step (omega (arith, low, high))

  step-of : (k : ℕ) → 1 ≤ k → k ≤ length table.steps → IsStepOf problem table.params (old_step k)
  step-of k low high = All-at (IsStepOf problem table.params) table.steps (old_step k) is.in_range.steps (has-step k low high)

  -- what holds of each kept step holds of all
  of-kept : (P : OpInst → Type 0) → ((k : ℕ) → 1 ≤ k → k ≤ length table.steps → P (old_step k)) → All P (kept_steps table kept)
  of-kept P each = All-map P old_step kept (λ i d below. let w = within i d below in each _ w.0 w.1)

  -- ---- the goal

  pub wanted-step : (pair : ℕ × ℕ) → Contains wanted pair → (1 ≤ pair.0) × (pair.0 ≤ length table.steps)
  wanted-step pair has =
      let add = All-at (IsAddOf problem table prefix) wanted pair may.adds_are has in
      (add.counted, omega (arith, add.within, may.most))

  pub wanted-there : (pair : ℕ × ℕ) → Contains wanted pair
      → slice_get (adds problem (old_step pair.0)) pair.1 ≡ Some (wanted_atom problem table pair)
  wanted-there pair has =
      slice_get-read (adds problem (old_step pair.0)) pair.1 no_atom (All-at (IsAddOf problem table prefix) wanted pair may.adds_are has).has

  wanted-of : (pair : ℕ × ℕ) → Contains wanted pair → IsAtomOf problem table.params (wanted_atom problem table pair)
  wanted-of pair has =
      let w = wanted-step pair has in
      All-got (IsAtomOf problem table.params) (adds problem (old_step pair.0)) pair.1 (wanted_atom problem table pair)
      (adds-of_step problem valid table.params (old_step pair.0) (step-of pair.0 w.0 w.1)) (wanted-there pair has)

  goal-of : All (IsAtomOf problem table.params) (wanted_atoms problem table wanted)
  goal-of = All-map (IsAtomOf problem table.params) (wanted_atom problem table) wanted
      (All-each (λ pair. IsAtomOf problem table.params (wanted_atom problem table pair)) wanted wanted-of)

  -- ---- what the rows prove

  facts-prove : (pairs : List (ℕ × ℕ)) → ((pair : ℕ × ℕ) → Contains pairs pair → Contains wanted pair)
      → ProvesEachOf Is problem.axioms (map (wanted_atom problem table) pairs) (map (wanted_fact problem table kept) pairs)
  facts-prove [] among = tt
  facts-prove (pair ∷ pairs) among =
      let atom = wanted_atom problem table pair in
      let args : All Is atom.args =
      λ k d below. name_of_term problem table.params _ ((wanted-of pair (among pair (Contains-first pair pairs))).1 k d below) in (
        record { proves = (refl, (Contains-first atom [], args)); terms = args },
        facts-prove pairs (λ p has. among p (has.0 + 1, omega (arith, has.1), later p has)),
      )
    where
      later : (p : ℕ × ℕ) → (has : Contains pairs p) → slice_index_or (pair ∷ pairs) (has.0 + 1) p ≡ p
      later p has = let e : has.0 + 1 ≡ suc has.0 = omega arith in ap (λ n. slice_index_or (pair ∷ pairs) n p) e ∙ has.2

  abbrev goal_row : List Derivation
  goal_row = map (wanted_fact problem table kept) wanted

  goal-proves : RowsProve Is problem table.params [] (wanted_atoms problem table wanted) 0 (goal_row ∷ [])
  goal-proves = (
    [],
    refl,
    subst (λ (g : List Atom). ProvesEachOf Is problem.axioms g goal_row)
        (sym (own-goal problem table.params (wanted_atoms problem table wanted) goal-of))
        (facts-prove wanted (λ p has. has)),
  )

  kept-prove : (ks : List ℕ) → All (λ k. (1 ≤ k) × (k ≤ length table.steps)) ks
      → RowsProve Is problem table.params (kept_of no_step ks table.steps) (wanted_atoms problem table wanted) 0
      (map (map (in_columns number)) (kept_of [] ks old_rows) ++ goal_row ∷ [])
  kept-prove [] all = goal-proves
  kept-prove (k ∷ ks) all =
      let w = all 0 k (omega arith) in (
        row-columns number Is problem.axioms (precondition problem (old_step k)) (slice_index_or old_rows (k - 1) [])
            (row-proves Is problem table.params table.goal table.goal_variable_count table.steps old_rows is.prove (k - 1) (omega (arith, w.0, w.1))),
        kept-prove ks (λ i d below. all (suc i) d (omega (arith, below))),
      )

  -- ---- marks

  -- a mark of the kept rows is that of a row of the table, in other columns, or that of a wanted add
  pub record IsKeptMark (mark : Mark) : Type 0 where
    pub old : Mark
    pub has : Contains table.marks old
    pub place : ℕ
    pub row_at : slice_get kept place ≡ Some old.row
    pub mark_is : record { atom = old.atom; row = suc place; column = number old.column; index = old.index } ≡ mark

  pub record IsWantedMark (mark : Mark) : Type 0 where
    pub pair : ℕ × ℕ
    pub has : Contains wanted pair
    pub mark_is : record { atom = wanted_atom problem table pair; row = suc (length kept); column = number pair.0; index = pair.1 } ≡ mark

  one_more : (n : ℕ) → suc n ≡ 1 + n
  one_more n = omega arith

  -- a row of a list of rows with one behind
  row-cases : (rows : List (List Derivation)) (last row : List Derivation) (k : ℕ) → slice_get (rows ++ last ∷ []) k ≡ Some row
      → (slice_get rows k ≡ Some row) ⊎ ((k ≡ length rows) × (last ≡ row))
  row-cases [] last row zero at = inr (refl, some_same at)
  row-cases [] last row (suc k) at = absurd (cc)
  row-cases (r ∷ rows) last row zero at = inl at
  row-cases (r ∷ rows) last row (suc k) at = elim (row-cases rows last row k at) [
    | inl here ↦ inl here
    | inr end ↦ inr (ap suc end.0, end.1)
  ]

  goal-leaf : (pairs : List (ℕ × ℕ)) (leaf : Leaf) → Contains (row_leaves (map (wanted_fact problem table kept) pairs)) leaf
      → (pair : ℕ × ℕ) × Contains pairs pair
      × (record { column = number pair.0; index = pair.1; atom = wanted_atom problem table pair } ≡ leaf)
  goal-leaf [] leaf has = absurd (Contains-none leaf has)
  goal-leaf (pair ∷ pairs) leaf (zero, below, same) = (pair, Contains-first pair pairs, same)
  goal-leaf (pair ∷ pairs) leaf (suc k, below, same) =
      let rest = goal-leaf pairs leaf (k, omega (arith, below), same) in
      (rest.0, (suc rest.1.0, omega (arith, rest.1.1), rest.1.2), rest.2)

  abbrev the_rows : List (List Derivation)
  the_rows = kept_rows problem table wanted kept

  pub mark-cases : (mark : Mark) → Contains (marks_from 1 the_rows) mark → IsKeptMark mark ⊎ IsWantedMark mark
  mark-cases mark has =
      let found = mark-at 1 the_rows mark has in
      elim (row-cases (map (map (in_columns number)) (kept_of [] kept old_rows)) goal_row found.row found.place found.at) [
        | inl at ↦
            let row = from_map (map (in_columns number)) (kept_of [] kept old_rows) found.place found.row at in
            let k = from_map (λ k. slice_index_or old_rows (k - 1) []) kept found.place row.0 row.1 in
            let w = All-got (λ k. (1 ≤ k) × (k ≤ length table.steps)) kept found.place k.0 within k.1 in
            let leaf =
            Contains-from_map (leaf_in_column number) (row_leaves row.0) found.leaf
            (subst (λ (l : List Leaf). Contains l found.leaf) (row_leaves-columns number row.0)
            (subst (λ (r : List Derivation). Contains (row_leaves r) found.leaf) (sym row.2) found.has)) in
            let there : slice_get old_rows (k.0 - 1) ≡ Some row.0 =
            slice_get-read old_rows (k.0 - 1) [] (omega (arith, w.0, w.1, table-rows problem table is)) ∙ ap Some k.2 in
            let old : Contains (marks_from 1 old_rows) (mark_of k.0 leaf.0) =
            leaf_marked 1 (k.0 - 1) k.0 old_rows row.0 leaf.0 (omega (arith, w.0)) there leaf.1 in
            inl (record {
              old = mark_of k.0 leaf.0;
              has = subst (λ (l : List Mark). Contains l (mark_of k.0 leaf.0)) (sym is.marks) old;
              place = found.place;
              row_at = k.1;
              mark_is = ap (mark_of (suc found.place)) leaf.2 ∙ ap (λ n. mark_of n found.leaf) (one_more found.place) ∙ found.is;
            })
        | inr end ↦
            let leaf =
            goal-leaf wanted found.leaf (subst (λ (r : List Derivation). Contains (row_leaves r) found.leaf) (sym end.1) found.has) in
            let place : suc (length kept) ≡ 1 + found.place =
            omega (
              arith,
              end.0,
              length-map (kept_of [] kept old_rows) (map (in_columns number)),
              length-map kept (λ k. slice_index_or old_rows (k - 1) []),
            ) in
            inr (record {
              pair = leaf.0;
              has = leaf.1;
              mark_is = ap (mark_of (suc (length kept))) leaf.2 ∙ ap (λ n. mark_of n found.leaf) place ∙ found.is;
            })
      ]

  prefix-at : (rows : List (List Derivation)) (last row : List Derivation) (k : ℕ) → slice_get rows k ≡ Some row
      → slice_get (rows ++ last ∷ []) k ≡ Some row
  prefix-at [] last row k at = absurd (cc)
  prefix-at (r ∷ rows) last row zero at = at
  prefix-at (r ∷ rows) last row (suc k) at = prefix-at rows last row k at

  last-at : (rows : List (List Derivation)) (last : List Derivation) → slice_get (rows ++ last ∷ []) (length rows) ≡ Some last
  last-at [] last = refl
  last-at (r ∷ rows) last = last-at rows last

  -- a mark of a kept row stays, in other columns
  pub kept-mark : (mark : Mark) → Contains table.marks mark → (i : ℕ) → slice_get kept i ≡ Some mark.row
      → Contains (marks_from 1 the_rows)
      (record { atom = mark.atom; row = suc i; column = number mark.column; index = mark.index })
  kept-mark mark has i at =
      let found = mark-at 1 old_rows mark (subst (λ (l : List Mark). Contains l mark) is.marks has) in
      let place : mark.row - 1 ≡ found.place = omega (arith, ap (λ (m : Mark). m.row) found.is) in
      let row : slice_index_or old_rows (mark.row - 1) [] ≡ found.row =
      ap (λ n. slice_index_or old_rows n []) place ∙ read-at old_rows found.place found.row [] found.at in
      let there =
      prefix-at (map (map (in_columns number)) (kept_of [] kept old_rows)) goal_row (map (in_columns number) found.row) i
      (slice_get-map (map (in_columns number)) (kept_of [] kept old_rows) i found.row
      (slice_get-map (λ k. slice_index_or old_rows (k - 1) []) kept i mark.row at ∙ ap Some row)) in
      let leaf : Contains (row_leaves (map (in_columns number) found.row)) (leaf_in_column number found.leaf) =
      subst (λ (l : List Leaf). Contains l (leaf_in_column number found.leaf)) (sym (row_leaves-columns number found.row))
      (Contains-mapped (leaf_in_column number) (row_leaves found.row) found.leaf found.has) in
      subst (λ (m : Mark). Contains (marks_from 1 the_rows)
      (record { atom = m.atom; row = suc i; column = number m.column; index = m.index })) found.is
      (leaf_marked 1 i (suc i) the_rows (map (in_columns number) found.row) (leaf_in_column number found.leaf) (omega arith) there leaf)

  fact-leaf : (pairs : List (ℕ × ℕ)) (pair : ℕ × ℕ) → Contains pairs pair
      → Contains (row_leaves (map (wanted_fact problem table kept) pairs))
      (record { column = number pair.0; index = pair.1; atom = wanted_atom problem table pair })
  fact-leaf [] pair has = absurd (Contains-none pair has)
  fact-leaf (p ∷ pairs) pair (zero, below, same) =
      (0, omega arith, ap (λ (q : ℕ × ℕ). record { column = number q.0; index = q.1; atom = wanted_atom problem table q }) same)
  fact-leaf (p ∷ pairs) pair (suc k, below, same) =
      let rest = fact-leaf pairs pair (k, omega (arith, below), same) in (suc rest.0, omega (arith, rest.1), rest.2)

  -- a wanted add makes a mark of the goal's row
  pub wanted-mark : (pair : ℕ × ℕ) → Contains wanted pair → Contains (marks_from 1 the_rows)
      (record { atom = wanted_atom problem table pair; row = suc (length kept); column = number pair.0; index = pair.1 })
  wanted-mark pair has =
      let front : List (List Derivation) = map (map (in_columns number)) (kept_of [] kept old_rows) in
      let long : suc (length kept) ≡ 1 + length front =
      omega (
        arith,
        length-map (kept_of [] kept old_rows) (map (in_columns number)),
        length-map kept (λ k. slice_index_or old_rows (k - 1) []),
      ) in
      leaf_marked 1 (length front) (suc (length kept)) the_rows goal_row _ long (last-at front goal_row) (fact-leaf wanted pair has)

  -- the step of a kept column
  step-there : (c place : ℕ) → slice_get kept place ≡ Some c → step_at (kept_steps table kept) (suc place) ≡ Some (old_step c)
  step-there c place at = slice_get-map old_step kept place c at

  old-step_at : (c : ℕ) (inst : OpInst) → step_at table.steps c ≡ Some inst → inst ≡ old_step c
  old-step_at zero inst at = absurd (cc)
  old-step_at (suc c) inst at =
      let e : suc c - 1 ≡ c = omega arith in
      sym (ap (λ n. slice_index_or table.steps n no_step) e ∙ read-at table.steps c inst no_step at)

  kept-mark_named : (mark : Mark) → IsKeptMark mark → IsNamed problem (kept_steps table kept) mark
  kept-mark_named mark of =
      let named = All-at (IsNamed problem table.steps) table.marks of.old is.named of.has in
      let has_row : Contains kept of.old.row = (of.place, slice_get-within kept of.place of.old.row of.row_at, read-at kept of.place of.old.row of.old.row of.row_at) in
      let missed = All-at (λ (m : Mark). Contains kept m.row → (m.column ≡ 0) ⊎ Contains kept m.column) table.marks of.old
      (nothing_missed table wanted kept are) of.has has_row in
      subst (IsNamed problem (kept_steps table kept)) of.mark_is
      (by-column named (column-cases kept are.in_order least of.old.column missed))
    where
      by-column : IsNamed problem table.steps of.old
          → ((of.old.column ≡ 0) × (number of.old.column ≡ 0)) ⊎ IsKeptColumn kept of.old.column
          → IsNamed problem (kept_steps table kept)
          (record { atom = of.old.atom; row = suc of.place; column = number of.old.column; index = of.old.index })
      by-column named (inl first) = record {
        earlier = omega (arith, first.1);
        initial = λ e. named.initial first.0;
        added = λ later. absurd (omega (arith, later, first.1));
      }
      by-column named (inr column) = record {
        earlier =
            omega (
              arith,
              column.number,
              place-before kept are.in_order column.place of.place of.old.column of.old.row column.at of.row_at named.earlier,
            );
        initial = λ e. absurd (omega (arith, e, column.number));
        added = λ later.
            let low : 1 ≤ of.old.column = All-got (λ k. 1 ≤ k) kept column.place of.old.column least column.at in
            let add = named.added (omega (arith, low)) in (
              old_step of.old.column,
              ap (step_at (kept_steps table kept)) column.number ∙ step-there of.old.column column.place column.at,
              ap (λ (s : OpInst). slice_get (adds problem s) of.old.index) (sym (old-step_at of.old.column add.0 add.1)) ∙ add.2,
            );
      }

  wanted-mark_named : (mark : Mark) → IsWantedMark mark → IsNamed problem (kept_steps table kept) mark
  wanted-mark_named mark of =
      let has : Contains kept of.pair.0 =
      All-at (λ (pair : ℕ × ℕ). Contains kept pair.0) wanted of.pair (keeps_wanted problem table prefix wanted is may kept are).0 of.has in
      let found = place_of kept of.pair.0 has in
      let number_is = number-at kept are.in_order found.0 of.pair.0 found.1 in
      subst (IsNamed problem (kept_steps table kept)) of.mark_is record {
        earlier = omega (arith, number_is, slice_get-within kept found.0 of.pair.0 found.1);
        initial = λ e. absurd (omega (arith, e, number_is));
        added = λ later. (
          old_step of.pair.0,
          ap (step_at (kept_steps table kept)) number_is ∙ step-there of.pair.0 found.0 found.1,
          wanted-there of.pair of.has,
        );
      }

  mark-named : (mark : Mark) → Contains (marks_from 1 the_rows) mark → IsNamed problem (kept_steps table kept) mark
  mark-named mark has = elim (mark-cases mark has) [
    | inl of ↦ kept-mark_named mark of
    | inr of ↦ wanted-mark_named mark of
  ]

  mark-atom : (mark : Mark) → Contains (marks_from 1 the_rows) mark → IsAtomOf problem table.params mark.atom
  mark-atom mark has = elim (mark-cases mark has) [
    | inl of ↦ subst (λ (m : Mark). IsAtomOf problem table.params m.atom) of.mark_is
        (All-at (λ (m : Mark). IsAtomOf problem table.params m.atom) table.marks of.old is.atoms of.has)
    | inr of ↦ subst (λ (m : Mark). IsAtomOf problem table.params m.atom) of.mark_is (wanted-of of.pair of.has)
  ]

  -- ---- all together

  pub kept-parts : AreTableParts problem table.params table.param_sorts (kept_steps table kept) (wanted_atoms problem table wanted)
      (kept_rows problem table wanted kept)
  kept-parts = record {
    short = omega (arith, length-map kept old_step, kept-few kept (length table.steps) are.in_order within, is.in_range.short);
    steps_are = of-kept (IsStepOf problem table.params) step-of;
    goal_is = goal-of;
    prove = kept-prove kept within;
    atoms = All-each (λ (mark : Mark). IsAtomOf problem table.params mark.atom) (marks_from 1 the_rows) mark-atom;
    named = All-each (IsNamed problem (kept_steps table kept)) (marks_from 1 the_rows) mark-named;
    sorted = of-kept (IsWellSortedStep problem table.param_sorts) (λ k low high.
        All-at (IsWellSortedStep problem table.param_sorts) table.steps (old_step k) is.sorted.steps (has-step k low high));
  }
