-- The laws of editing.
use Rattle.std.specs.Prelude.{◌≡◌, ◌⊎◌, ◌+◌, ◌-◌, ◌<◌, ◌≤◌, ℕ, max, Some, List, [], ◌∷◌, ◌++◌, map, filter, flat_map, length, slice_get, slice_index_or, All, Any, Contains}
use Rattle.std.proofs.Common.{zero, suc, refl, sym, ap, ◌∙◌, subst, inl, inr, arith}
use Rattle.std.proofs.lemmas.List.{length-map}
use Rattle.std.proofs.lemmas.List.Elements.{Contains-append_cases}
use Rattle.px_base.specs.Answers.{cons_same}
use Rattle.px_base.specs.ListLaws.{Contains-one}
use Rattle.px_terms.specs.declared.problem.Problem.{Problem}
use Rattle.px_terms.specs.declared.term.Term.{Term}
use Rattle.px_terms.specs.Language.{substitute}
use Rattle.px_terms.specs.Order.{term_eq}
use Rattle.px_terms.specs.Substitution.{substitute_atom, substitute_instance}
use Rattle.px_terms.specs.Validity.{IsValid}
use Rattle.px_proof.specs.declared.proof.Proof.{Proof}
use Rattle.px_proof.specs.Derivation.{Derivation, Derivations, fact, ancestor, step, gap, open_place, none, also, height, greatest_height}
use Rattle.px_proof.specs.LayerLaws.{derivations_tell_proofs}
use Rattle.px_proof.specs.PlaceLaws.{slice_get-read}
use Rattle.px_proof.specs.ProofTerm.{derivation_of}
use Rattle.px_proof.specs.Substitution.{derivation_under, derivations_under}
use Rattle.px_table.specs.declared.mark.Mark.{Mark}
use Rattle.px_table.specs.declared.table.Table.{Table}
use Rattle.px_table.specs.KernelLaws.{Contains-from_map}
use Rattle.px_table.specs.Marks.{marks_from}
use Rattle.px_table.specs.Once.{each_once}
use Rattle.px_table.specs.Parameters.{IsNumbered, goal_terms, is_parameter, row_terms, step_terms, terms_in}
use Rattle.px_table.specs.Supports.{variables}
use Rattle.px_table.specs.Tables.{IsTable, rows_of}
use Rattle.px_table.specs.WellSorted.{HasSortsOfPlaces, sorts_by_places}
use Rattle.px_table.specs.WellSortedLaws.{sorts_by_places-said}
use Rattle.px_edit.specs.EditCauses.{IsEditable, most_kept_height}
use Rattle.px_edit.specs.EditClaims.{EachStepServes, EditingIsSound}
use Rattle.px_edit.specs.Editing.{AreKeptSteps, IsEdited, IsNeededStep, IsRenamedTable, asked, in_columns, kept_of, kept_rows, kept_steps, left_parameters, names_by, new_number, no_step, rested_on, terms_of_parts, wanted_atom, wanted_atoms, wanted_fact}
use Rattle.px_edit.proofs.Alike.{marks-kept, used-alike}
use Rattle.px_edit.proofs.Counting.{number-at}
use Rattle.px_edit.proofs.InColumns.{height-columns}
use Rattle.px_edit.proofs.KeptParts.{kept-mark, kept-parts, wanted-mark}
use Rattle.px_edit.proofs.Lists.{place_of}
use Rattle.px_edit.proofs.Needed.{keeps_wanted, kept_is_one, nothing_missed}
use Rattle.px_edit.proofs.Numbered.{named-terms, parts-numbered}
use Rattle.px_edit.proofs.ObjectsLeft.{objects-left}
use Rattle.px_edit.proofs.PartsThere.{parts-there}
use Rattle.px_edit.proofs.There.{edited-there}
use Rattle.px_edit.proofs.TableParts.{mark_named, parts-named, table-of_parts, to_marks-named}

-- ---- it is a table

module _ (problem : Problem) (table : Table) (prefix : ℕ) (wanted : List (ℕ × ℕ)) (edited : Table) (is : IsTable problem table)
    (may : IsEditable problem table prefix wanted) (done : IsEdited problem table wanted edited) where
  abbrev names : List Term
  names = names_by table.params (left_parameters problem table wanted done.kept)

  pub edited-table : IsValid problem → IsTable problem edited
  edited-table valid =
      table-of_parts problem edited (length (left_parameters problem table wanted done.kept))
      (map (substitute_instance names) (kept_steps table done.kept)) (map (substitute_atom names) (wanted_atoms problem table wanted))
      (map (map (derivation_under names)) (kept_rows problem table wanted done.kept)) valid done.params done.renamed.sorts_are
      done.renamed.steps_are done.renamed.goal_is done.renamed.goal_variable_count done.renamed.rows_are done.renamed.marks_are
      (parts-named problem valid table.params table.param_sorts (kept_steps table done.kept) (wanted_atoms problem table wanted)
      (kept_rows problem table wanted done.kept) (kept-parts problem valid table is prefix wanted may done.kept done.are_kept))

  pub edited-steps : length edited.steps ≡ length done.kept
  edited-steps =
      ap length done.renamed.steps_are ∙ length-map (kept_steps table done.kept) (substitute_instance names)
      ∙ length-map done.kept (λ k. slice_index_or table.steps (k - 1) no_step)

  -- ---- each step serves

  has-mark : (mark : Mark) → Contains (marks_from 1 (kept_rows problem table wanted done.kept)) mark
      → Contains edited.marks (mark_named names mark)
  has-mark mark has =
      subst (λ (l : List Mark). Contains l (mark_named names mark))
      (sym (done.renamed.marks_are ∙ ap (marks_from 1) done.renamed.rows_are))
      (to_marks-named names (kept_rows problem table wanted done.kept) mark has)

  serves-by : (k : ℕ) (mark : Mark) → Contains edited.marks mark → mark.column ≡ k → Any (λ (m : Mark). m.column ≡ k) edited.marks
  serves-by k mark has is_k = (has.0, mark, has.1, has.2, is_k)

  needed-serves : {j : ℕ} → IsValid problem → (c : ℕ) → new_number done.kept j ≡ c → IsNeededStep table wanted j
      → Any (λ (m : Mark). m.column ≡ c) edited.marks
  needed-serves valid c number_is (asked {k} index has) =
      serves-by c _ (has-mark _ (wanted-mark problem valid table is prefix wanted may done.kept done.are_kept (k, index) has)) number_is
  needed-serves valid c number_is (rested_on {k} {row} needed mark has row_is column_is low) =
      let there = place_of done.kept mark.row (subst (Contains done.kept) (sym row_is) ((done.are_kept.needed row).1 needed)) in
      serves-by c _
      (has-mark _ (kept-mark problem valid table is prefix wanted may done.kept done.are_kept mark has there.0 there.1))
      (ap (new_number done.kept) column_is ∙ number_is)

  pub edited-serves : IsValid problem → EachStepServes edited
  edited-serves valid k low high =
      let place : k - 1 < length done.kept = omega (arith, low, high, edited-steps) in
      let at = slice_get-read done.kept (k - 1) 0 place in
      let j : ℕ = slice_index_or done.kept (k - 1) 0 in
      let number_is : new_number done.kept j ≡ k =
      number-at done.kept done.are_kept.in_order (k - 1) j at ∙ omega (arith, low) in
      needed-serves valid k number_is ((done.are_kept.needed j).0 (k - 1, place, read-again done.kept (k - 1) place))
    where
      read-again : (xs : List ℕ) (i : ℕ) → i < length xs → slice_index_or xs i (slice_index_or xs i 0) ≡ slice_index_or xs i 0
      read-again [] i below = absurd (omega (arith, below))
      read-again (x ∷ xs) zero below = refl
      read-again (x ∷ xs) (suc i) below = read-again xs i (omega (arith, below))

-- ---- heights

mutual
  height-under : (terms : List Term) (d : Derivation) → height (derivation_under terms d) ≡ height d
  height-under terms (fact leaf) = refl
  height-under terms (ancestor i) = refl
  height-under terms (step number theta place parts) = ap (λ n. 1 + n) (heights-under terms parts)
  height-under terms (gap atom) = refl
  height-under terms open_place = refl

  heights-under : (terms : List Term) (ds : Derivations) → greatest_height (derivations_under terms ds) ≡ greatest_height ds
  heights-under terms none = refl
  heights-under terms (also d ds) =
      ap (λ n. max n (greatest_height (derivations_under terms ds))) (height-under terms d) ∙ ap (max (height d)) (heights-under terms ds)

abbrev IsHigh : Derivation → Type 0
IsHigh d = most_kept_height < height d

-- where no proof of the kept rows is high, none of the edited table is
pub edited-low : (problem : Problem) (table : Table) (wanted : List (ℕ × ℕ)) (edited : Table) (done : IsEdited problem table wanted edited)
    → ¬ Any (Any IsHigh) (kept_of [] done.kept (rows_of table.proofs)) → ¬ Any (Any IsHigh) (rows_of edited.proofs)
edited-low problem table wanted edited done low high = by-row (subst (Any (Any IsHigh)) done.renamed.rows_are high)
  where
    names : List Term
    names = names_by table.params (left_parameters problem table wanted done.kept)

    number : ℕ → ℕ
    number = new_number done.kept

    fact-low : (d : Derivation) → Contains (map (wanted_fact problem table done.kept) wanted) d → ¬ IsHigh d
    fact-low d has above =
        let pair = Contains-from_map (wanted_fact problem table done.kept) wanted d has in
        omega (arith, subst IsHigh (sym pair.2) above)

    kept-low : (row : List Derivation) → Contains (map (map (in_columns number)) (kept_of [] done.kept (rows_of table.proofs))) row
        → (d : Derivation) → Contains row d → ¬ IsHigh d
    kept-low row has d there above =
        let old = Contains-from_map (map (in_columns number)) (kept_of [] done.kept (rows_of table.proofs)) row has in
        let proof = Contains-from_map (in_columns number) old.0 d (subst (λ (r : List Derivation). Contains r d) (sym old.2) there) in
        let here : IsHigh proof.0 = omega (arith, subst IsHigh (sym proof.2) above, height-columns number proof.0) in
        low (old.1.0, old.0, old.1.1, old.1.2, (proof.1.0, proof.0, proof.1.1, proof.1.2, here))

    either : (row : List Derivation) → Contains (kept_rows problem table wanted done.kept) row → (d : Derivation) → Contains row d
        → ¬ IsHigh d
    either row has d there above =
        elim (Contains-append_cases (map (map (in_columns number)) (kept_of [] done.kept (rows_of table.proofs)))
        (map (wanted_fact problem table done.kept) wanted ∷ []) row has) [
          | inl old ↦ kept-low row old d there above
          | inr goal ↦
              fact-low d (subst (λ (r : List Derivation). Contains r d) (sym (Contains-one _ row goal)) there) above
        ]

    by-row : ¬ Any (Any IsHigh) (map (map (derivation_under names)) (kept_rows problem table wanted done.kept))
    by-row found =
        let row =
        Contains-from_map (map (derivation_under names)) (kept_rows problem table wanted done.kept) found.1 (found.0, found.2, found.3) in
        let inner = found.4 in
        let proof =
        Contains-from_map (derivation_under names) row.0 inner.1
        (subst (λ (r : List Derivation). Contains r inner.1) (sym row.2) (inner.0, inner.2, inner.3)) in
        either row.0 row.1 proof.0 proof.1
        (omega (arith, subst IsHigh (sym proof.2) inner.4, height-under names proof.0))

-- ---- it is one

row-tells : (xs ys : List Proof) → map derivation_of xs ≡ map derivation_of ys → xs ≡ ys
row-tells [] [] same = refl
row-tells [] (y ∷ ys) same = absurd (cc)
row-tells (x ∷ xs) [] same = absurd (cc)
row-tells (x ∷ xs) (y ∷ ys) same =
    let both = cons_same same in
    let head = derivations_tell_proofs x y both.0 in
    let tail = row-tells xs ys both.1 in
    λ i. head i ∷ tail i

rows-tell : (xs ys : List (List Proof)) → rows_of xs ≡ rows_of ys → xs ≡ ys
rows-tell [] [] same = refl
rows-tell [] (y ∷ ys) same = absurd (cc)
rows-tell (x ∷ xs) [] same = absurd (cc)
rows-tell (x ∷ xs) (y ∷ ys) same =
    let both = cons_same same in
    let head = row-tells x y both.0 in
    let tail = rows-tell xs ys both.1 in
    λ i. head i ∷ tail i

-- the edited table by these kept steps
abbrev IsEditedBy : Problem → Table → List (ℕ × ℕ) → Table → List ℕ → Type 0
IsEditedBy problem table wanted edited kept = (edited.params ≡ length (left_parameters problem table wanted kept))
    × IsRenamedTable problem (names_by table.params (left_parameters problem table wanted kept)) (kept_steps table kept)
    (wanted_atoms problem table wanted) (kept_rows problem table wanted kept) edited

one_by : (problem : Problem) (table : Table) (wanted : List (ℕ × ℕ)) (a b : Table) (kept : List ℕ)
    → IsEditedBy problem table wanted a kept → IsEditedBy problem table wanted b kept → a ≡ b
one_by problem table wanted a b kept one other =
    let params : a.params ≡ b.params = one.0 ∙ sym other.0 in
    let steps : a.steps ≡ b.steps = one.1.steps_are ∙ sym other.1.steps_are in
    let goal : a.goal ≡ b.goal = one.1.goal_is ∙ sym other.1.goal_is in
    let goal_variable_count : a.goal_variable_count ≡ b.goal_variable_count = one.1.goal_variable_count ∙ sym other.1.goal_variable_count in
    let rows : rows_of a.proofs ≡ rows_of b.proofs = one.1.rows_are ∙ sym other.1.rows_are in
    let proofs : a.proofs ≡ b.proofs = rows-tell a.proofs b.proofs rows in
    let marks : a.marks ≡ b.marks = one.1.marks_are ∙ ap (marks_from 1) rows ∙ sym other.1.marks_are in
    let sorts : a.param_sorts ≡ b.param_sorts =
    one.1.sorts_are ∙ ap (λ s. sorts_by_places problem s a.params) steps ∙ ap (sorts_by_places problem b.steps) params
    ∙ sym other.1.sorts_are in
    λ i. record {
      params = params i;
      steps = steps i;
      goal = goal i;
      goal_variable_count = goal_variable_count i;
      marks = marks i;
      proofs = proofs i;
      param_sorts = sorts i;
    }

pub edited-one : (problem : Problem) (table : Table) (wanted : List (ℕ × ℕ)) (a b : Table) → IsEdited problem table wanted a
    → IsEdited problem table wanted b → a ≡ b
edited-one problem table wanted a b one other =
    one_by problem table wanted a b other.kept
    (subst (IsEditedBy problem table wanted a) (kept_is_one table wanted one.kept other.kept one.are_kept other.are_kept)
    (one.params, one.renamed))
    (other.params, other.renamed)

-- ---- its parameters

module _ (problem : Problem) (table : Table) (prefix : ℕ) (wanted : List (ℕ × ℕ)) (edited : Table) (is : IsTable problem table)
    (may : IsEditable problem table prefix wanted) (done : IsEdited problem table wanted edited) (valid : IsValid problem) where
  abbrev left : List Term
  left = left_parameters problem table wanted done.kept

  abbrev own_names : List Term
  own_names = names_by table.params left

  abbrev old_rows : List (List Derivation)
  old_rows = kept_rows problem table wanted done.kept

  abbrev arguments : List Mark → List Term
  arguments marks = flat_map (λ (mark : Mark). mark.atom.args) marks

  own-terms : terms_in edited
      ≡ map (substitute own_names) (terms_of_parts (kept_steps table done.kept) (wanted_atoms problem table wanted) old_rows)
  own-terms =
      let parts = kept-parts problem valid table is prefix wanted may done.kept done.are_kept in
      let marks : edited.marks ≡ marks_from 1 (map (map (derivation_under own_names)) old_rows) =
      done.renamed.marks_are ∙ ap (marks_from 1) done.renamed.rows_are in
      (λ i. arguments (marks i) ++ (step_terms (done.renamed.steps_are i)
      ++ (goal_terms (done.renamed.goal_is i) ++ row_terms (done.renamed.rows_are i))))
      ∙ named-terms problem valid table.params table.param_sorts (kept_steps table done.kept) (wanted_atoms problem table wanted) old_rows parts

  pub edited-numbered : IsNumbered edited
  edited-numbered =
      let parts = kept-parts problem valid table is prefix wanted may done.kept done.are_kept in
      ap (λ n. each_once term_eq (filter (is_parameter n) (terms_in edited))) done.params
      ∙ ap (λ l. each_once term_eq (filter (is_parameter (length left)) l)) own-terms
      ∙ parts-numbered problem valid table.params table.param_sorts (kept_steps table done.kept) (wanted_atoms problem table wanted) old_rows parts
      ∙ ap variables (sym done.params)

  pub edited-sorts : HasSortsOfPlaces problem edited
  edited-sorts =
      sorts_by_places-said problem edited (edited-table problem table prefix wanted edited is may done valid).sorted done.renamed.sorts_are

-- ---- all together

pub editing_sound : EditingIsSound
editing_sound = record {
  table = λ problem table prefix wanted edited valid is may done. edited-table problem table prefix wanted edited is may done valid;
  serves = λ problem table prefix wanted edited valid is may done. edited-serves problem table prefix wanted edited is may done valid;
  whole = λ problem table prefix wanted kept is may are.
      (nothing_missed table wanted kept are, keeps_wanted problem table prefix wanted is may kept are);
  there = parts-there;
  marks = λ problem table prefix wanted edited valid is may done. marks-kept problem valid table is prefix wanted may edited done;
  numbered = λ problem table prefix wanted edited valid is may done. edited-numbered problem table prefix wanted edited is may done valid;
  sorts = λ problem table prefix wanted edited valid is may done. edited-sorts problem table prefix wanted edited is may done valid;
  objects = objects-left;
  alike = λ problem table prefix wanted edited sigma left valid is may done given objects.
      used-alike problem valid table is prefix wanted may edited done sigma left given objects;
  some = λ problem table prefix wanted valid is may. edited-there problem valid table is prefix wanted may;
  one = edited-one;
}
