use Rattle.px_causes.proofs.Common.{sym, ◌∙◌, not, has_name}
use Rattle.px_causes.proofs.PartTests.{line-atoms-any, or-then, or-else}
use Rattle.px_causes.proofs.naming.lacks_predicate.Goals as goal

pub returns-then-lack_predicates : goal.returns-then-lack_predicates
returns-then-lack_predicates c =
    let whole = line-atoms-any c.args.line.now c.atoms-atoms.result.now c.parts-parts.result.now c.atoms-atoms.ensures c.parts-parts.ensures
    (λ x. not (has_name x.atom.predicate c.args.so_far.now.names.predicates)) in
    c.if-lack_predicates.true ∙ or-then _ _ _ whole (sym c.lack_predicates.ensures ∙ c.if-lack_predicates.true)

pub returns-else-lack_predicates : goal.returns-else-lack_predicates
returns-else-lack_predicates c =
    let whole = line-atoms-any c.args.line.now c.atoms-atoms.result.now c.parts-parts.result.now c.atoms-atoms.ensures c.parts-parts.ensures
    (λ x. not (has_name x.atom.predicate c.args.so_far.now.names.predicates)) in
    c.parts_lack_predicates.ensures ∙ or-else _ _ _ whole (sym c.lack_predicates.ensures ∙ c.if-lack_predicates.false)
