-- The edits that are worked out by hand are as they are said to be.
use Rattle.std.specs.Prelude.{◌≡◌, ◌⊎◌, ◌+◌, ◌<◌, ◌≤◌, ◌==◌, ◌&&◌, ◌||◌, not, ℕ, Bool, true, false, List, [], ◌∷◌, ◌++◌, length, map, slice_index, All, Contains}
use Rattle.std.specs.List.{AllByRecursion, list_all}
use Rattle.std.specs.List.Sorted.{IsStrictlyIncreasing}
use Rattle.std.proofs.Common.{zero, suc, refl, sym, ap, ◌∙◌, subst, inl, inr, arith, eq-eqb}
use borrow.Author.Tests.{eqb-true}
use Rattle.std.specs.Cmp.{first_so, second_so}
use Rattle.std.proofs.lemmas.List.Elements.{All-from_recursion}
use Rattle.px_base.specs.ListLaws.{All-at, Contains-cases, Contains-first, Contains-later, Contains-none}
use Rattle.px_terms.specs.declared.atom.Atom.{Atom}
use Rattle.px_terms.specs.declared.instance.OpInst.{OpInst}
use Rattle.px_terms.specs.declared.term.Term.{Term}
use Rattle.px_terms.specs.Substitution.{substitute_atom, substitute_instance}
use Rattle.px_proof.specs.Derivation.{Derivation}
use Rattle.px_proof.specs.LayerLaws.{HasNoOpenPlace, derivation_of-proof_of, proof_of}
use Rattle.px_proof.specs.ProofTerm.{derivation_of}
use Rattle.px_proof.specs.Substitution.{derivation_under}
use Rattle.px_table.specs.declared.mark.Mark.{Mark}
use Rattle.px_table.specs.declared.table.Table.{Table}
use Rattle.px_table.specs.Marks.{marks_from}
use Rattle.px_table.specs.Tables.{rows_of}
use Rattle.px_edit.specs.Editing.{AreKeptSteps, IsEdited, IsNeededStep, asked, in_columns, kept_of, kept_steps, names_by, new_number, parameters_in, rested_on, terms_of_parts, wanted_atoms, wanted_fact}
use Rattle.px_edit.specs.WorkedEdits.{WorkedEdits, fetching_problem, fetching_rows, fetching_table, going_rows, going_table, stacking_mark, stacking_marks}

-- ---- which steps are kept, by computing

abbrev has_number : List ℕ → ℕ → Bool
has_number [] k = false
has_number (x ∷ xs) k = (x == k) || has_number xs k

either-so : (a b : Bool) → (a || b) ≡ true → (a ≡ true) ⊎ (b ≡ true)
either-so true b is = inl refl
either-so false b is = inr is

has-there : (xs : List ℕ) (k : ℕ) → has_number xs k ≡ true → Contains xs k
has-there [] k is = absurd (cc)
has-there (x ∷ xs) k is = elim (either-so (x == k) (has_number xs k) is) [
  | inl here ↦ subst (Contains (x ∷ xs)) (eqb-true x k here) (Contains-first x xs)
  | inr later ↦ Contains-later x xs k (has-there xs k later)
]

there-has : (xs : List ℕ) (k : ℕ) → Contains xs k → has_number xs k ≡ true
there-has [] k has = absurd (Contains-none k has)
there-has (x ∷ xs) k has = elim (Contains-cases x xs k has) [
  | inl here ↦ first-true (x == k) (has_number xs k) (eq-eqb x k here)
  | inr later ↦ second-true (x == k) (has_number xs k) (there-has xs k later)
]
  where
    first-true : (a b : Bool) → a ≡ true → (a || b) ≡ true
    first-true true b is = refl
    first-true false b is = absurd (cc)

    second-true : (a b : Bool) → b ≡ true → (a || b) ≡ true
    second-true true b is = refl
    second-true false b is = is

-- the mark's row isn't kept, or its column is the initial model or kept
abbrev is_closed : List ℕ → Mark → Bool
is_closed kept mark = not (has_number kept mark.row) || ((mark.column == 0) || has_number kept mark.column)

closed-mark : (kept : List ℕ) (mark : Mark) → is_closed kept mark ≡ true → Contains kept mark.row → 1 ≤ mark.column → Contains kept mark.column
closed-mark kept mark is row low =
    elim (either-so (not (has_number kept mark.row)) ((mark.column == 0) || has_number kept mark.column) is) [
      | inl none_such ↦ absurd (both_ways (has_number kept mark.row) (there-has kept mark.row row) none_such)
      | inr column ↦ elim (either-so (mark.column == 0) (has_number kept mark.column) column) [
        | inl first ↦ absurd (omega (arith, low, eqb-true mark.column 0 first))
        | inr some_such ↦ has-there kept mark.column some_such
      ]
    ]
  where
    both_ways : (b : Bool) → b ≡ true → ¬ (not b ≡ true)
    both_ways true one other = cc
    both_ways false one other = cc

all-closed : (kept : List ℕ) (marks : List Mark) → list_all (is_closed kept) marks ≡ true → (mark : Mark) → Contains marks mark
    → is_closed kept mark ≡ true
all-closed kept [] is mark has = absurd (Contains-none mark has)
all-closed kept (m ∷ marks) is mark has = elim (Contains-cases m marks mark has) [
  | inl here ↦ subst (λ (x : Mark). is_closed kept x ≡ true) here (first_so _ _ is)
  | inr later ↦ all-closed kept marks (second_so _ _ is) mark later
]

module _ (table : Table) (wanted : List (ℕ × ℕ)) (kept : List ℕ) (rising : IsStrictlyIncreasing kept)
    (all_asked : (k index : ℕ) → Contains wanted (k, index) → Contains kept k) (closed : list_all (is_closed kept) table.marks ≡ true)
    (all_needed : All (IsNeededStep table wanted) kept) where
  needed-kept : {k : ℕ} → IsNeededStep table wanted k → Contains kept k
  needed-kept (asked {k} index has) = all_asked k index has
  needed-kept (rested_on {k} {row} needed mark has row_is column_is low) =
      subst (Contains kept) column_is
      (closed-mark kept mark (all-closed kept table.marks closed mark has) (subst (Contains kept) (sym row_is) (needed-kept needed))
      (omega (arith, low, column_is)))

  kept-by : AreKeptSteps table wanted kept
  kept-by = record {
    in_order = rising;
    needed = λ k. (λ has. All-at (IsNeededStep table wanted) kept k all_needed has, needed-kept);
  }

-- ---- stacking

abbrev stacked : List ℕ
stacked = 1 ∷ 2 ∷ 3 ∷ 5 ∷ []

stacking-rises : IsStrictlyIncreasing stacked
stacking-rises zero within = omega arith
stacking-rises (suc zero) within = omega arith
stacking-rises (suc (suc zero)) within = omega arith
stacking-rises (suc (suc (suc k))) within = absurd (omega (arith, within))

one-pair : (number index k at : ℕ) → Contains {X = ℕ × ℕ} ((number, index) ∷ []) (k, at) → k ≡ number
one-pair number index k at has = elim (Contains-cases (number, index) [] (k, at) has) [
  | inl here ↦ sym (ap (λ (p : ℕ × ℕ). p.0) here)
  | inr later ↦ absurd (Contains-none (k, at) later)
]

stacking-kept : (table : Table) → table.marks ≡ stacking_marks → AreKeptSteps table ((5, 0) ∷ []) stacked
stacking-kept table is =
    kept-by table ((5, 0) ∷ []) stacked stacking-rises
    (λ k index has. subst (Contains stacked) (sym (one-pair 5 0 k index has)) (3, omega arith, refl))
    (ap (list_all (is_closed stacked)) is ∙ refl)
    (All-from_recursion (IsNeededStep table ((5, 0) ∷ [])) stacked (first, (second, (third, (last, tt)))))
  where
    there : (mark : Mark) → Contains stacking_marks mark → Contains table.marks mark
    there mark has = subst (λ (l : List Mark). Contains l mark) (sym is) has

    last : IsNeededStep table ((5, 0) ∷ []) 5
    last = asked 0 (Contains-first (5, 0) [])

    third : IsNeededStep table ((5, 0) ∷ []) 3
    third = rested_on last (stacking_mark 5 3 1 (1 ∷ [])) (there _ (15, omega arith, refl)) refl refl (omega arith)

    second : IsNeededStep table ((5, 0) ∷ []) 2
    second = rested_on third (stacking_mark 3 2 0 (0 ∷ 1 ∷ [])) (there _ (8, omega arith, refl)) refl refl (omega arith)

    first : IsNeededStep table ((5, 0) ∷ []) 1
    first = rested_on second (stacking_mark 2 1 1 (0 ∷ [])) (there _ (3, omega arith, refl)) refl refl (omega arith)

-- ---- going alone

row-back : (row : List Derivation) → AllByRecursion HasNoOpenPlace row → map derivation_of (map proof_of row) ≡ row
row-back [] whole = refl
row-back (d ∷ row) whole =
    let here = derivation_of-proof_of d whole.0 in
    let rest = row-back row whole.1 in
    λ i. here i ∷ rest i

rows-back : (rows : List (List Derivation)) → AllByRecursion (AllByRecursion HasNoOpenPlace) rows → rows_of (map (map proof_of) rows) ≡ rows
rows-back [] whole = refl
rows-back (row ∷ rows) whole =
    let here = row-back row whole.0 in
    let rest = rows-back rows whole.1 in
    λ i. here i ∷ rest i

fetching-back : rows_of fetching_table.proofs ≡ fetching_rows
fetching-back = rows-back fetching_rows ((tt, (tt, tt)), ((tt, (tt, ((tt, tt), tt))), ((tt, (tt, tt)), tt)))

going-back : rows_of going_table.proofs ≡ going_rows
going-back = rows-back going_rows ((tt, (tt, tt)), ((tt, tt), tt))

alone-rises : IsStrictlyIncreasing (1 ∷ [])
alone-rises k within = absurd (omega (arith, within))

going-kept : AreKeptSteps fetching_table ((1, 0) ∷ []) (1 ∷ [])
going-kept =
    kept-by fetching_table ((1, 0) ∷ []) (1 ∷ []) alone-rises
    (λ k index has. subst (Contains (1 ∷ [])) (sym (one-pair 1 0 k index has)) (Contains-first 1 []))
    (ap (λ rows. list_all (is_closed (1 ∷ [])) (marks_from 1 rows)) fetching-back ∙ refl)
    (All-from_recursion (IsNeededStep fetching_table ((1, 0) ∷ [])) (1 ∷ []) (asked 0 (Contains-first (1, 0) []), tt))

-- the rows of the kept steps of these rows, the parameters that occur in them, and the names
abbrev rows_here : List (List Derivation) → List (List Derivation)
rows_here rows = map (map (in_columns (new_number (1 ∷ [])))) (kept_of [] (1 ∷ []) rows)
    ++ map (wanted_fact fetching_problem fetching_table (1 ∷ [])) ((1, 0) ∷ []) ∷ []

abbrev left_here : List (List Derivation) → List Term
left_here rows = parameters_in 6
    (terms_of_parts (kept_steps fetching_table (1 ∷ [])) (wanted_atoms fetching_problem fetching_table ((1, 0) ∷ [])) (rows_here rows))

abbrev names_here : List (List Derivation) → List Term
names_here rows = names_by 6 (left_here rows)

going-edited : IsEdited fetching_problem fetching_table ((1, 0) ∷ []) going_table
going-edited = record {
  kept = 1 ∷ [];
  are_kept = going-kept;
  params = sym (ap (λ rows. length (left_here rows)) fetching-back);
  renamed = record {
    steps_are = sym (ap (λ rows. map (substitute_instance (names_here rows)) (kept_steps fetching_table (1 ∷ []))) fetching-back);
    goal_is =
        sym (ap (λ rows. map (substitute_atom (names_here rows)) (wanted_atoms fetching_problem fetching_table ((1, 0) ∷ []))) fetching-back);
    goal_variable_count = refl;
    rows_are = going-back ∙ sym (ap (λ rows. map (map (derivation_under (names_here rows))) (rows_here rows)) fetching-back);
    marks_are = refl;
    sorts_are = refl;
  };
}

pub worked_edits : WorkedEdits
worked_edits = record { going = going-edited; stacking = stacking-kept }
