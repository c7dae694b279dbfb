use Rattle.std.proofs.Common.{◌≡◌, ◌≤◌, ◌<◌, ◌++◌, ◌∷◌, [], ◌-◌, List, length, map, ap, sym, ◌∙◌, subst, arith, length-append, refl}
use Rattle.std.specs.Prelude.{All, slice_index_or}
use Rattle.std.proofs.lemmas.List.{length-map}
use Rattle.px_terms.specs.declared.atom.Atom.{Atom}
use Rattle.px_terms.specs.declared.instance.OpInst.{OpInst}
use Rattle.px_terms.specs.Language.{IsVariableBelow}
use Rattle.px_proof.specs.declared.proof.Proof.{Proof}
use Rattle.px_proof.specs.Derivation.{Derivation}
use Rattle.px_proof.specs.ProofTerm.{derivation_of}
use Rattle.px_table.specs.Parameters.{goal_terms, row_terms, step_terms}
use Rattle.px_table.specs.Tables.{rows_of}
use Rattle.px_edit.specs.Editing.{IsEdited, in_columns, kept_of, kept_rows, kept_steps, new_number, wanted_atom, wanted_atoms, wanted_fact}
use Rattle.px_edit.proofs.KeptParts.{kept-parts, table-rows, within}
use Rattle.px_edit.proofs.OfParts.{edited-by, goal_terms-below, kept_rows-length, row_terms-below, step_terms-below}
use Rattle.px_edit.proofs.Replies.{ok_both}
use Rattle.px_edit.proofs.editing.edited_table.Goals as goal

pub kept_steps-requires : goal.kept_steps-requires
kept_steps-requires c =
    within c.args.problem.now c.requires.problem c.args.table.now c.requires.table c.args.prefix c.args.wanted.now c.requires.editable
    c.args.kept.now c.requires.kept

pub kept_rows-requires-clause-rows : goal.kept_rows-requires-clause-rows
kept_rows-requires-clause-rows c =
    omega (
      arith,
      table-rows c.args.problem.now c.args.table.now c.requires.table,
      length-map c.args.table.now.proofs (map derivation_of),
    )

pub kept_rows-requires-clause-numbers : goal.kept_rows-requires-clause-numbers
kept_rows-requires-clause-numbers c =
    within c.args.problem.now c.requires.problem c.args.table.now c.requires.table c.args.prefix c.args.wanted.now c.requires.editable
    c.args.kept.now c.requires.kept

pub kept_rows-requires-clause-count : goal.kept_rows-requires-clause-count
kept_rows-requires-clause-count c =
    ap length (c.deref.ensures.value ∙ c.in_ok-goal.ensures) ∙ length-map c.args.wanted.now (wanted_atom c.args.problem.now c.args.table.now)

pub renamed_table-requires-clause-steps : goal.renamed_table-requires-clause-steps
renamed_table-requires-clause-steps c =
    let parts =
    kept-parts c.args.problem.now c.requires.problem c.args.table.now c.requires.table c.args.prefix c.args.wanted.now c.requires.editable
    c.args.kept.now c.requires.kept in
    subst (λ (l : List OpInst). All (IsVariableBelow c.args.table.now.params) (step_terms l))
    (sym (c.deref-2.ensures.value ∙ c.in_ok-steps.ensures))
    (step_terms-below c.args.problem.now c.args.table.now.params _ parts.steps_are)

pub renamed_table-requires-clause-goal : goal.renamed_table-requires-clause-goal
renamed_table-requires-clause-goal c =
    let parts =
    kept-parts c.args.problem.now c.requires.problem c.args.table.now c.requires.table c.args.prefix c.args.wanted.now c.requires.editable
    c.args.kept.now c.requires.kept in
    subst (λ (l : List Atom). All (IsVariableBelow c.args.table.now.params) (goal_terms l))
    (sym (c.deref-3.ensures.value ∙ c.in_ok-goal.ensures))
    (goal_terms-below c.args.problem.now c.args.table.now.params _ parts.goal_is)

pub renamed_table-requires-clause-rows : goal.renamed_table-requires-clause-rows
renamed_table-requires-clause-rows c =
    let parts =
    kept-parts c.args.problem.now c.requires.problem c.args.table.now c.requires.table c.args.prefix c.args.wanted.now c.requires.editable
    c.args.kept.now c.requires.kept in
    let goal_is = c.deref.ensures.value ∙ c.in_ok-goal.ensures in
    let rows_are = ap rows_of c.deref-4.ensures.value ∙ c.in_ok-rows.ensures c.args.problem.now goal_is in
    subst (λ (l : List (List Derivation)). All (IsVariableBelow c.args.table.now.params) (row_terms l)) (sym rows_are)
    (row_terms-below c.args.problem.now c.args.table.now.params _ _ _ parts.prove)

pub renamed_table-requires-clause-short : goal.renamed_table-requires-clause-short
renamed_table-requires-clause-short c =
    let goal_is = c.deref.ensures.value ∙ c.in_ok-goal.ensures in
    let rows_are = ap rows_of c.deref-4.ensures.value ∙ c.in_ok-rows.ensures c.args.problem.now goal_is in
    omega (
      arith,
      length-map c.deref-4.result.now (map derivation_of),
      ap length rows_are,
      kept_rows-length c.args.problem.now c.args.table.now c.args.wanted.now c.args.kept.now,
      c.requires.few,
    )

pub returns : goal.returns
returns c =
    let goal_is = c.deref.ensures.value ∙ c.in_ok-goal.ensures in
    ok_both _ _ (λ edited. IsEdited c.args.problem.now c.args.table.now c.args.wanted.now edited)
    (λ edited params renamed. edited-by c.args.problem.now c.args.table.now c.args.wanted.now c.args.kept.now c.deref-2.result.now
    c.deref-3.result.now (rows_of c.deref-4.result.now) edited c.requires.kept (c.deref-2.ensures.value ∙ c.in_ok-steps.ensures)
    (c.deref-3.ensures.value ∙ c.in_ok-goal.ensures)
    (ap rows_of c.deref-4.ensures.value ∙ c.in_ok-rows.ensures c.args.problem.now goal_is) params renamed)
    c.renamed_table.result c.renamed_table.ensures.params c.renamed_table.ensures.renamed
