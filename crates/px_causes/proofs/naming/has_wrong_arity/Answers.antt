use Rattle.px_causes.proofs.Common.{sym, ◌∙◌, declared_of}
use Rattle.px_causes.proofs.PartTests.{line-differs, or-then, or-else}
use Rattle.px_causes.proofs.naming.has_wrong_arity.Goals as goal

pub returns-then-differ_in_arity : goal.returns-then-differ_in_arity
returns-then-differ_in_arity c =
    let whole = line-differs (declared_of c.args.so_far.now) c.args.line.now c.atoms-atoms.result.now c.parts-parts.result.now
    c.atoms-atoms.ensures c.parts-parts.ensures in
    c.if-differ_in_arity.true ∙ or-then _ _ _ whole (sym c.differ_in_arity.ensures ∙ c.if-differ_in_arity.true)

pub returns-else-differ_in_arity : goal.returns-else-differ_in_arity
returns-else-differ_in_arity c =
    let whole = line-differs (declared_of c.args.so_far.now) c.args.line.now c.atoms-atoms.result.now c.parts-parts.result.now
    c.atoms-atoms.ensures c.parts-parts.ensures in
    c.parts_differ.ensures ∙ or-else _ _ _ whole (sym c.differ_in_arity.ensures ∙ c.if-differ_in_arity.false)
