use Rattle.px_causes.proofs.Common.{sym, ◌∙◌, not, takes, declared_of}
use Rattle.px_causes.proofs.PartTests.{line-arguments-any, or-then, or-else}
use Rattle.px_causes.proofs.naming.is_unbound.Goals as goal

pub returns-then-have_unbound : goal.returns-then-have_unbound
returns-then-have_unbound c =
    let whole = line-arguments-any c.args.line.now c.atoms-atoms.result.now c.arguments-others.result.now c.parts-parts.result.now
    c.atoms-atoms.ensures c.arguments-others.ensures c.parts-parts.ensures
    (λ a. not (takes (declared_of c.args.so_far.now) c.args.line.now.row.manner a)) in
    c.if-have_unbound.true ∙ or-then _ _ _ whole (sym c.have_unbound.ensures ∙ c.if-have_unbound.true)

pub returns-else-have_unbound : goal.returns-else-have_unbound
returns-else-have_unbound c =
    let whole = line-arguments-any c.args.line.now c.atoms-atoms.result.now c.arguments-others.result.now c.parts-parts.result.now
    c.atoms-atoms.ensures c.arguments-others.ensures c.parts-parts.ensures
    (λ a. not (takes (declared_of c.args.so_far.now) c.args.line.now.row.manner a)) in
    c.others_unbound.ensures ∙ or-else _ _ _ whole (sym c.have_unbound.ensures ∙ c.if-have_unbound.false)
