use Rattle.px_causes.proofs.Common.{sym, ◌∙◌, is_variable}
use Rattle.px_causes.proofs.PartTests.{line-arguments-any, or-then, or-else}
use Rattle.px_causes.proofs.order.has_variable.Goals as goal

pub returns-then-any_varies : goal.returns-then-any_varies
returns-then-any_varies c =
    let whole = line-arguments-any c.args.line.now c.atoms-atoms.result.now c.arguments-others.result.now c.parts-parts.result.now
    c.atoms-atoms.ensures c.arguments-others.ensures c.parts-parts.ensures (is_variable) in
    c.if-any_varies.true ∙ or-then _ _ _ whole (sym c.any_varies.ensures ∙ c.if-any_varies.true)

pub returns-else-any_varies : goal.returns-else-any_varies
returns-else-any_varies c =
    let whole = line-arguments-any c.args.line.now c.atoms-atoms.result.now c.arguments-others.result.now c.parts-parts.result.now
    c.atoms-atoms.ensures c.arguments-others.ensures c.parts-parts.ensures (is_variable) in
    c.others_vary.ensures ∙ or-else _ _ _ whole (sym c.any_varies.ensures ∙ c.if-any_varies.false)
