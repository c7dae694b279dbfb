use Rattle.px_causes.proofs.Common.{sym, ◌∙◌, not, is_known_argument, declared_of}
use Rattle.px_causes.proofs.PartTests.{line-arguments-any, or-then, or-else}
use Rattle.px_causes.proofs.naming.lacks_argument.Goals as goal

pub returns-then-lack_arguments : goal.returns-then-lack_arguments
returns-then-lack_arguments c =
    let whole = line-arguments-any c.args.line.now c.atoms-atoms.result.now c.arguments-others.result.now c.parts-parts.result.now
    c.atoms-atoms.ensures c.arguments-others.ensures c.parts-parts.ensures
    (λ a. not (is_known_argument (declared_of c.args.so_far.now) a)) in
    c.if-lack_arguments.true ∙ or-then _ _ _ whole (sym c.lack_arguments.ensures ∙ c.if-lack_arguments.true)

pub returns-else-lack_arguments : goal.returns-else-lack_arguments
returns-else-lack_arguments c =
    let whole = line-arguments-any c.args.line.now c.atoms-atoms.result.now c.arguments-others.result.now c.parts-parts.result.now
    c.atoms-atoms.ensures c.arguments-others.ensures c.parts-parts.ensures
    (λ a. not (is_known_argument (declared_of c.args.so_far.now) a)) in
    c.others_lack.ensures ∙ or-else _ _ _ whole (sym c.lack_arguments.ensures ∙ c.if-lack_arguments.false)
