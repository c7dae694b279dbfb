-- The terms of the parts of a table, and the edited table by its parts.
use Rattle.std.specs.Prelude.{◌≡◌, ◌-◌, ◌<◌, ◌≤◌, ℕ, List, [], ◌∷◌, ◌++◌, map, length, flat_map, slice_index_or, All, Contains}
use Rattle.std.proofs.Common.{suc, refl, sym, ap, ◌∙◌, subst, arith, length-append}
use Rattle.std.proofs.lemmas.List.{length-map}
use Rattle.std.proofs.lemmas.List.Elements.{All-append}
use Rattle.px_base.specs.ListLaws.{All-at, All-each}
use Rattle.px_terms.specs.declared.atom.Atom.{Atom}
use Rattle.px_terms.specs.declared.instance.OpInst.{OpInst}
use Rattle.px_terms.specs.declared.problem.Problem.{Problem}
use Rattle.px_terms.specs.declared.term.Term.{Term}
use Rattle.px_terms.specs.declared.term.Term.TheVariants.{Obj, Var, Any as WildCard}
use Rattle.px_terms.specs.Language.{IsVariableBelow}
use Rattle.px_terms.specs.Validity.{IsAtomOf, IsTermOf}
use Rattle.px_proof.specs.Derivation.{Derivation, terms_of}
use Rattle.px_proof.specs.Proves.{IsObjectOrParameter}
use Rattle.px_proof.specs.ProvesLaws.{term_of_name, terms_from}
use Rattle.px_table.specs.declared.table.Table.{Table}
use Rattle.px_table.specs.Parameters.{goal_terms, row_terms, step_terms}
use Rattle.px_table.specs.Supports.{ProvesEachOf, RowsProve}
use Rattle.px_table.specs.Tables.{IsStepOf, rows_of}
use Rattle.px_edit.specs.Editing.{AreKeptSteps, IsEdited, IsRenamedTable, in_columns, kept_of, kept_rows, kept_steps, left_parameters, names_by, new_number, parameters_in, terms_of_parts, wanted_atoms, wanted_fact}
use Rattle.px_edit.proofs.Lists.{Contains-from_flat_map}
use Rattle.px_edit.proofs.TableParts.{AreTableParts}

variable-below : (problem : Problem) (n : ℕ) (t : Term) → IsTermOf problem n t → IsVariableBelow n t
variable-below problem n (Obj o) is = tt
variable-below problem n (Var v) is = is
variable-below problem n WildCard is = tt

module _ (problem : Problem) (params : ℕ) where
  abbrev Is : Term → Type 0
  Is = IsObjectOrParameter problem.objects params

  row-allowed : (atoms : List Atom) (row : List Derivation) → ProvesEachOf Is problem.axioms atoms row → All Is (flat_map terms_of row)
  row-allowed [] [] p = λ k e below. absurd (omega (arith, below))
  row-allowed [] (d ∷ row) p = absurd p
  row-allowed (a ∷ atoms) [] p = absurd p
  row-allowed (a ∷ atoms) (d ∷ row) p =
      All-append Is (terms_of d) (flat_map terms_of row) (terms_from Is problem.axioms _ [] _ d p.0.proves) (row-allowed atoms row p.1)

  rows-allowed : (goal : List Atom) (steps : List OpInst) (rows : List (List Derivation)) → RowsProve Is problem params steps goal 0 rows
      → All Is (row_terms rows)
  rows-allowed goal [] [] p = absurd p
  rows-allowed goal [] (row ∷ []) p =
      All-append Is (flat_map terms_of row) [] (row-allowed _ row p.2) (λ k e below. absurd (omega (arith, below)))
  rows-allowed goal [] (row ∷ second ∷ rows) p = absurd p
  rows-allowed goal (s ∷ steps) [] p = absurd p
  rows-allowed goal (s ∷ steps) (row ∷ rows) p =
      All-append Is (flat_map terms_of row) (row_terms rows) (row-allowed _ row p.0) (rows-allowed goal steps rows p.1)

  pub step_terms-below : (steps : List OpInst) → All (IsStepOf problem params) steps → All (IsVariableBelow params) (step_terms steps)
  step_terms-below steps all = All-each (IsVariableBelow params) (step_terms steps) (λ t has.
      let from = Contains-from_flat_map (λ (s : OpInst). s.args) steps t has in
      variable-below problem params t
      (All-at (IsTermOf problem params) from.0.args t (All-at (IsStepOf problem params) steps from.0 all from.1).terms from.2))

  pub goal_terms-below : (goal : List Atom) → All (IsAtomOf problem params) goal → All (IsVariableBelow params) (goal_terms goal)
  goal_terms-below goal all = All-each (IsVariableBelow params) (goal_terms goal) (λ t has.
      let from = Contains-from_flat_map (λ (a : Atom). a.args) goal t has in
      variable-below problem params t
      (All-at (IsTermOf problem params) from.0.args t (All-at (IsAtomOf problem params) goal from.0 all from.1).1 from.2))

  pub row_terms-below : (goal : List Atom) (steps : List OpInst) (rows : List (List Derivation))
      → RowsProve Is problem params steps goal 0 rows → All (IsVariableBelow params) (row_terms rows)
  row_terms-below goal steps rows p = All-each (IsVariableBelow params) (row_terms rows) (λ t has.
      variable-below problem params t
      (term_of_name problem params t (All-at Is (row_terms rows) t (rows-allowed goal steps rows p) has)))

-- the edited table by its parts
pub edited-by : (problem : Problem) (table : Table) (wanted : List (ℕ × ℕ)) (kept : List ℕ) (steps : List OpInst) (goal : List Atom)
    (rows : List (List Derivation)) (made : Table) → AreKeptSteps table wanted kept → steps ≡ kept_steps table kept
    → goal ≡ wanted_atoms problem table wanted → rows ≡ kept_rows problem table wanted kept
    → made.params ≡ length (parameters_in table.params (terms_of_parts steps goal rows))
    → IsRenamedTable problem (names_by table.params (parameters_in table.params (terms_of_parts steps goal rows))) steps goal rows made
    → IsEdited problem table wanted made
edited-by problem table wanted kept steps goal rows made are steps_are goal_is rows_are params_are renamed_is = record {
  kept = kept;
  are_kept = are;
  params = by.0;
  renamed = by.1;
}
  where
    By : List OpInst → List Atom → List (List Derivation) → Type 0
    By s g r = (made.params ≡ length (parameters_in table.params (terms_of_parts s g r)))
        × IsRenamedTable problem (names_by table.params (parameters_in table.params (terms_of_parts s g r))) s g r made

    by : By (kept_steps table kept) (wanted_atoms problem table wanted) (kept_rows problem table wanted kept)
    by =
        subst (λ r. By (kept_steps table kept) (wanted_atoms problem table wanted) r) rows_are
        (subst (λ g. By (kept_steps table kept) g rows) goal_is (subst (λ s. By s goal rows) steps_are (params_are, renamed_is)))

pub kept_rows-length : (problem : Problem) (table : Table) (wanted : List (ℕ × ℕ)) (kept : List ℕ)
    → length (kept_rows problem table wanted kept) ≡ suc (length kept)
kept_rows-length problem table wanted kept =
    omega (
      arith,
      length-append (map (map (in_columns (new_number kept))) (kept_of [] kept (rows_of table.proofs)))
          (map (wanted_fact problem table kept) wanted ∷ []),
      length-map (kept_of [] kept (rows_of table.proofs)) (map (in_columns (new_number kept))),
      length-map kept (λ k. slice_index_or (rows_of table.proofs) (k - 1) []),
    )
