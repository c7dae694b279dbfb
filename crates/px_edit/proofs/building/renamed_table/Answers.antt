use Rattle.std.proofs.Common.{length, ap, sym, ◌∙◌, subst}
use Rattle.std.specs.Prelude.{All}
use Rattle.px_terms.specs.Language.{IsVariableBelow}
use Rattle.px_table.specs.Parameters.{goal_terms, row_terms, step_terms}
use Rattle.px_table.specs.Tables.{rows_of}
use Rattle.px_edit.proofs.Names.{length-names}
use Rattle.px_edit.proofs.building.renamed_table.Goals as goal

pub named_table-requires-clause-steps : goal.named_table-requires-clause-steps
named_table-requires-clause-steps c =
    let many = ap length (c.deref-2.ensures.value ∙ c.in_ok-names.ensures.names_are) ∙ length-names c.args.params _ in
    subst (λ n. All (IsVariableBelow n) (step_terms c.args.steps.now)) (sym many) c.requires.steps

pub named_table-requires-clause-goal : goal.named_table-requires-clause-goal
named_table-requires-clause-goal c =
    let many = ap length (c.deref-2.ensures.value ∙ c.in_ok-names.ensures.names_are) ∙ length-names c.args.params _ in
    subst (λ n. All (IsVariableBelow n) (goal_terms c.args.goal.now)) (sym many) c.requires.goal

pub named_table-requires-clause-rows : goal.named_table-requires-clause-rows
named_table-requires-clause-rows c =
    let many = ap length (c.deref-2.ensures.value ∙ c.in_ok-names.ensures.names_are) ∙ length-names c.args.params _ in
    subst (λ n. All (IsVariableBelow n) (row_terms (rows_of c.args.rows.now))) (sym many) c.requires.rows
