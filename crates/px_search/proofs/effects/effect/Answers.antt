use Rattle.std.proofs.Common.{◌≡◌, ◌∙◌, List, ap, subst, sym}
use Rattle.std.specs.Prelude.{IfOk}
use Rattle.px_terms.specs.declared.instance.OpInst.{OpInst}
use Rattle.px_table.specs.declared.table.Table.{Table}
use Rattle.px_search.proofs.EffectLaws.{effect-macro}
use Rattle.px_search.proofs.effects.effect.Goals as goal

pub returns-in-Macro : goal.returns-in-Macro
returns-in-Macro c =
    subst (λ (steps : List OpInst). IfOk c.steps_with.result (λ made. made.items ≡ steps))
    (effect-macro c.args.asked.now.problem.now c.args.asked.now.tables.now c.in-Macro.number c.in-Macro.prefix c.in-Macro.sigma
    c.as_slice.result.now c.args.entry.now c.index-asked-number.result c.as_slice-steps.result.now c.requires.entry c.in-Macro.is
    c.index-asked-number.is (c.as_slice-steps.ensures ∙ ap (λ (t : Table). t.steps) (sym c.index-asked-number.is)) c.as_slice.ensures)
    c.steps_with.ensures
