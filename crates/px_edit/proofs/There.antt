-- There is an edited table of all that may be edited.
use Rattle.std.specs.Prelude.{◌≡◌, ◌≢◌, ◌↔◌, ◌⊎◌, ◌+◌, ◌<◌, ◌≤◌, ℕ, List, [], ◌∷◌, length, map, slice_index, All, Contains}
use Rattle.std.specs.List.Sorted.{IsStrictlyIncreasing}
use Rattle.std.proofs.Common.{zero, suc, refl, sym, ap, ◌∙◌, subst, inl, inr, arith}
use Rattle.px_base.specs.ListLaws.{All-at, All-each, Contains-cases, Contains-first, Contains-later, Contains-none}
use Rattle.px_terms.specs.declared.atom.Atom.{Atom}
use Rattle.px_terms.specs.declared.clause.Clause.{Clause}
use Rattle.px_terms.specs.declared.clause.Lit.{Lit}
use Rattle.px_terms.specs.declared.instance.OpInst.{OpInst}
use Rattle.px_terms.specs.declared.problem.Problem.{Problem}
use Rattle.px_terms.specs.declared.term.Term.{Term}
use Rattle.px_terms.specs.Operators.{precondition}
use Rattle.px_terms.specs.Substitution.{substitute_atom, substitute_instance}
use Rattle.px_terms.specs.Validity.{IsValid}
use Rattle.px_proof.specs.Derivation.{Derivation, Derivations, fact, ancestor, step, gap, open_place, none, also, leaf_atoms, leaves_of}
use Rattle.px_proof.specs.LayerLaws.{HasNoOpenPlace, HaveNoOpenPlace, derivation_of-proof_of, proof_of}
use Rattle.px_proof.specs.Literals.{positive_of}
use Rattle.px_proof.specs.ProofTerm.{derivation_of}
use Rattle.px_proof.specs.Proves.{IsObjectOrParameter, Proves, ProvesEach, Rules, from_atoms, parts_of}
use Rattle.px_proof.specs.Substitution.{derivation_under}
use Rattle.px_table.specs.declared.mark.Mark.{Mark}
use Rattle.px_table.specs.declared.table.Table.{Table}
use Rattle.px_table.specs.Marks.{IsNamed}
use Rattle.px_table.specs.Supports.{ProvesEachOf, RowsProve}
use Rattle.px_table.specs.Tables.{IsTable, rows_of, table_of_rows}
use Rattle.px_table.specs.WellSorted.{sorts_by_places}
use Rattle.px_edit.specs.EditCauses.{IsEditable}
use Rattle.px_edit.specs.Editing.{AreKeptSteps, IsEdited, IsNeededStep, asked, rested_on, kept_rows, kept_steps, left_parameters, names_by, wanted_atoms}
use Rattle.px_edit.proofs.KeptParts.{kept-parts}
use Rattle.px_edit.proofs.Needed.{needed_within}
use Rattle.px_edit.proofs.TableParts.{parts-named}

-- ---- a thing holds of a number or not

same-or-not : (a b : ℕ) → (a ≡ b) ⊎ (a ≢ b)
same-or-not zero zero = inl refl
same-or-not zero (suc b) = inr (λ e. absurd (omega (arith, e)))
same-or-not (suc a) zero = inr (λ e. absurd (omega (arith, e)))
same-or-not (suc a) (suc b) = elim (same-or-not a b) [ inl same ↦ inl (ap suc same) | inr other ↦ inr (λ e. other (omega (arith, e))) ]

abbrev IsAsked : List (ℕ × ℕ) → ℕ → Type 0
IsAsked pairs k = (index : ℕ) × Contains pairs (k, index)

asked-or-not : (pairs : List (ℕ × ℕ)) (k : ℕ) → IsAsked pairs k ⊎ (¬ IsAsked pairs k)
asked-or-not [] k = inr (λ has. Contains-none (k, has.0) has.1)
asked-or-not (pair ∷ pairs) k = elim (same-or-not pair.0 k) [
  | inl same ↦
      let first : Contains (pair ∷ pairs) (pair.0, pair.1) = Contains-first pair pairs in
      inl (pair.1, subst (λ n. Contains (pair ∷ pairs) (n, pair.1)) same first)
  | inr other ↦ elim (asked-or-not pairs k) [
    | inl has ↦ inl (has.0, Contains-later pair pairs (k, has.0) has.1)
    | inr lacks ↦ inr (λ has. elim (Contains-cases pair pairs (k, has.0) has.1) [
      | inl here ↦ other (ap (λ (p : ℕ × ℕ). p.0) here)
      | inr later ↦ lacks (has.0, later)
    ])
  ]
]

-- ---- the numbers of which it holds, ascending

cons-rises : (x : ℕ) (xs : List ℕ) → All (λ y. x < y) xs → IsStrictlyIncreasing xs → IsStrictlyIncreasing (x ∷ xs)
cons-rises x xs above rising zero within = above 0 0 (omega (arith, within))
cons-rises x xs above rising (suc k) within =
    let up : suc (k + 1) ≡ suc k + 1 = omega arith in
    subst (λ n. slice_index (x ∷ xs) (suc k) < slice_index (x ∷ xs) n) up (rising k (omega (arith, within)))

-- these are the numbers from one on and below another of which it holds
record AreThoseOf (P : ℕ → Type 0) (low high : ℕ) (numbers : List ℕ) : Type 0 where
  pub in_order : IsStrictlyIncreasing numbers
  pub exact : (k : ℕ) → Contains numbers k ↔ ((low ≤ k) × (k < high) × P k)

first-or-later : (low k : ℕ) → low ≤ k → (low ≡ k) ⊎ (low + 1 ≤ k)
first-or-later low k least = grind (arith, least)

with-first : (P : ℕ → Type 0) (low high : ℕ) (xs : List ℕ) → low < high → P low → AreThoseOf P (low + 1) high xs
    → AreThoseOf P low high (low ∷ xs)
with-first P low high xs below holds are = record {
  in_order = cons-rises low xs (All-each (λ y. low < y) xs (λ y has. let h = (are.exact y).0 has in omega (arith, h.0))) are.in_order;
  exact = λ k. (
    λ has. elim (Contains-cases low xs k has) [
      | inl same ↦ (omega (arith, same), omega (arith, same, below), subst P same holds)
      | inr later ↦ let h = (are.exact k).0 later in (omega (arith, h.0), h.1, h.2)
    ],
    λ h. elim (first-or-later low k h.0) [
      | inl same ↦ subst (Contains (low ∷ xs)) same (Contains-first low xs)
      | inr later ↦ Contains-later low xs k ((are.exact k).1 (later, h.1, h.2))
    ],
  );
}

without-first : (P : ℕ → Type 0) (low high : ℕ) (xs : List ℕ) → ¬ P low → AreThoseOf P (low + 1) high xs → AreThoseOf P low high xs
without-first P low high xs lacks are = record {
  in_order = are.in_order;
  exact = λ k. (
    λ has. let h = (are.exact k).0 has in (omega (arith, h.0), h.1, h.2),
    λ h. elim (first-or-later low k h.0) [
      | inl same ↦ absurd (lacks (subst P (sym same) h.2))
      | inr later ↦ (are.exact k).1 (later, h.1, h.2)
    ],
  );
}

numbers-there : (P : ℕ → Type 0) → ((k : ℕ) → P k ⊎ (¬ P k)) → (count low high : ℕ) → low + count ≡ high
    → (numbers : List ℕ) × AreThoseOf P low high numbers
numbers-there P decide zero low high up = (
  [],
  record {
    in_order = λ k within. absurd (omega (arith, within));
    exact = λ k. (λ has. absurd (Contains-none k has), λ h. absurd (omega (arith, h.0, h.1, up)));
  },
)
numbers-there P decide (suc count) low high up =
    let rest = numbers-there P decide count (low + 1) high (omega (arith, up)) in
    elim (decide low) [
      | inl holds ↦ (low ∷ rest.0, with-first P low high rest.0 (omega (arith, up)) holds rest.1)
      | inr lacks ↦ (rest.0, without-first P low high rest.0 lacks rest.1)
    ]

-- ---- proof terms for rows

mutual
  closed : (rules : Rules) (axioms : List Clause) → ¬ rules.IsOpen → (path : List Lit) (lit : Lit) (d : Derivation)
      → Proves rules axioms path lit d → HasNoOpenPlace d
  closed rules axioms never path lit (fact leaf) proves = tt
  closed rules axioms never path lit (ancestor i) proves = tt
  closed rules axioms never path lit (step number theta place parts) proves =
      all-closed rules axioms never (lit ∷ path) (parts_of proves.0.lits theta place) parts proves.2
  closed rules axioms never path lit (gap atom) proves = tt
  closed rules axioms never path lit open_place proves = never proves

  all-closed : (rules : Rules) (axioms : List Clause) → ¬ rules.IsOpen → (path lits : List Lit) (ds : Derivations)
      → ProvesEach rules axioms path lits ds → HaveNoOpenPlace ds
  all-closed rules axioms never path [] none proves = tt
  all-closed rules axioms never path [] (also d ds) proves = absurd proves
  all-closed rules axioms never path (lit ∷ lits) none proves = absurd proves
  all-closed rules axioms never path (lit ∷ lits) (also d ds) proves =
      (closed rules axioms never path lit d proves.0, all-closed rules axioms never path lits ds proves.1)

module _ (Is : Term → Type 0) (problem : Problem) (params : ℕ) where
  row-back : (atoms : List Atom) (row : List Derivation) → ProvesEachOf Is problem.axioms atoms row
      → map derivation_of (map proof_of row) ≡ row
  row-back [] [] proves = refl
  row-back [] (d ∷ row) proves = absurd proves
  row-back (atom ∷ atoms) [] proves = absurd proves
  row-back (atom ∷ atoms) (d ∷ row) proves =
      let whole = closed (from_atoms Is (leaf_atoms (leaves_of d))) problem.axioms (λ h. h) [] (positive_of atom) d proves.0.proves in
      let here = derivation_of-proof_of d whole in
      let rest = row-back atoms row proves.1 in
      λ i. here i ∷ rest i

  rows-back : (goal : List Atom) (variable_count : ℕ) (steps : List OpInst) (rows : List (List Derivation))
      → RowsProve Is problem params steps goal variable_count rows → rows_of (map (map proof_of) rows) ≡ rows
  rows-back goal variable_count [] [] proves = absurd proves
  rows-back goal variable_count [] (row ∷ []) proves = ap (λ (r : List Derivation). r ∷ []) (row-back _ row proves.2)
  rows-back goal variable_count [] (row ∷ second ∷ rows) proves = absurd proves
  rows-back goal variable_count (inst ∷ steps) [] proves = absurd proves
  rows-back goal variable_count (inst ∷ steps) (row ∷ rows) proves =
      let here = row-back (precondition problem inst) row proves.0 in
      let rest = rows-back goal variable_count steps rows proves.1 in
      λ i. here i ∷ rest i

-- ---- the table

module _ (problem : Problem) (valid : IsValid problem) (table : Table) (is : IsTable problem table) (prefix : ℕ) (wanted : List (ℕ × ℕ))
    (may : IsEditable problem table prefix wanted) where
  abbrev IsNeeded : ℕ → Type 0
  IsNeeded k = IsNeededStep table wanted k

  -- the row of a needed step rests on the step
  abbrev IsRestedOn : List Mark → ℕ → Type 0
  IsRestedOn marks k = (mark : Mark) × Contains marks mark × (mark.column ≡ k) × IsNeeded mark.row

  rested-or-not : (k : ℕ) → ((row : ℕ) → k < row → IsNeeded row ⊎ (¬ IsNeeded row)) → (marks : List Mark)
      → ((mark : Mark) → Contains marks mark → mark.column < mark.row) → IsRestedOn marks k ⊎ (¬ IsRestedOn marks k)
  rested-or-not k decide [] earlier = inr (λ rested. Contains-none rested.0 rested.1)
  rested-or-not k decide (mark ∷ marks) earlier =
      elim (rested-or-not k decide marks (λ m has. earlier m (Contains-later mark marks m has))) [
        | inl later ↦ inl (later.0, Contains-later mark marks later.0 later.1, later.2, later.3)
        | inr unrested ↦ elim (same-or-not mark.column k) [
          | inl same ↦ elim (decide mark.row (omega (arith, same, earlier mark (Contains-first mark marks)))) [
            | inl needed ↦ inl (mark, Contains-first mark marks, same, needed)
            | inr free ↦ inr (λ rested. elim (Contains-cases mark marks rested.0 rested.1) [
              | inl here ↦ free (subst (λ (m : Mark). IsNeeded m.row) (sym here) rested.3)
              | inr later ↦ unrested (rested.0, later, rested.2, rested.3)
            ])
          ]
          | inr other ↦ inr (λ rested. elim (Contains-cases mark marks rested.0 rested.1) [
            | inl here ↦ other (ap (λ (m : Mark). m.column) here ∙ rested.2)
            | inr later ↦ unrested (rested.0, later, rested.2, rested.3)
          ])
        ]
      ]

  unneeded : {k : ℕ} → ¬ IsAsked wanted k → ¬ IsRestedOn table.marks k → ¬ IsNeeded k
  unneeded free unrested (asked index has) = free (index, has)
  unneeded free unrested (rested_on needed mark has row_is column_is low) =
      unrested (mark, has, column_is, subst IsNeeded (sym row_is) needed)

  least-or-zero : (k : ℕ) → (1 ≤ k) ⊎ (k < 1)
  least-or-zero k = grind arith

  earlier-mark : (mark : Mark) → Contains table.marks mark → mark.column < mark.row
  earlier-mark mark has = (All-at (IsNamed problem table.steps) table.marks mark is.named has).earlier

  decide-from : (fuel k : ℕ) → prefix < k + fuel → IsNeeded k ⊎ (¬ IsNeeded k)
  decide-from zero k far = inr (λ needed. absurd (omega (arith, far, (needed_within problem table prefix wanted is may needed).1)))
  decide-from (suc fuel) k far = elim (least-or-zero k) [
    | inr less ↦ inr (λ needed. absurd (omega (arith, less, (needed_within problem table prefix wanted is may needed).0)))
    | inl low ↦ elim (asked-or-not wanted k) [
      | inl has ↦ inl (asked has.0 has.1)
      | inr free ↦
          elim (rested-or-not k (λ row above. decide-from fuel row (omega (arith, far, above))) table.marks earlier-mark) [
            | inl rested ↦ inl (rested_on rested.3 rested.0 rested.1 refl rested.2 low)
            | inr unrested ↦ inr (unneeded free unrested)
          ]
    ]
  ]

  decide : (k : ℕ) → IsNeeded k ⊎ (¬ IsNeeded k)
  decide k = decide-from (suc prefix) k (omega arith)

  kept-there : (kept : List ℕ) × AreKeptSteps table wanted kept
  kept-there =
      let found = numbers-there IsNeeded decide prefix 1 (1 + prefix) refl in
      let are : AreThoseOf IsNeeded 1 (1 + prefix) found.0 = found.1 in (
        found.0,
        record {
          in_order = are.in_order;
          needed = λ k. (
            λ has. ((are.exact k).0 has).2,
            λ needed. let inside = needed_within problem table prefix wanted is may needed in
                (are.exact k).1 (inside.0, omega (arith, inside.1), needed),
          );
        },
      )

  module _ (kept : List ℕ) (are : AreKeptSteps table wanted kept) where
    abbrev left : List Term
    left = left_parameters problem table wanted kept

    abbrev names : List Term
    names = names_by table.params left

    abbrev steps : List OpInst
    steps = map (substitute_instance names) (kept_steps table kept)

    abbrev goal : List Atom
    goal = map (substitute_atom names) (wanted_atoms problem table wanted)

    abbrev rows : List (List Derivation)
    rows = map (map (derivation_under names)) (kept_rows problem table wanted kept)

    abbrev made : Table
    made = table_of_rows (length left) (sorts_by_places problem steps (length left)) steps goal 0 (map (map proof_of) rows)

    back : rows_of (map (map proof_of) rows) ≡ rows
    back =
        let parts = parts-named problem valid table.params table.param_sorts (kept_steps table kept) (wanted_atoms problem table wanted)
        (kept_rows problem table wanted kept) (kept-parts problem valid table is prefix wanted may kept are) in
        rows-back (IsObjectOrParameter problem.objects (length left)) problem (length left) goal 0 steps rows parts.prove

    is-made : IsEdited problem table wanted made
    is-made = record {
      kept = kept;
      are_kept = are;
      params = refl;
      renamed = record { steps_are = refl; goal_is = refl; goal_variable_count = refl; rows_are = back; marks_are = refl; sorts_are = refl };
    }

  pub edited-there : (edited : Table) × IsEdited problem table wanted edited
  edited-there = (made kept-there.0 kept-there.1, is-made kept-there.0 kept-there.1)
