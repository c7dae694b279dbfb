use Rattle.std.proofs.Common.{[], subst}
use Rattle.px_diff.specs.Outcomes.{AtStop}
use Rattle.px_diff.specs.Pushes.{LimitsRelevant}
use Rattle.px_diff.specs.declared.move_err.MoveErr.{MoveErr}
use Rattle.px_diff.proofs.FirstLemmas.{never-met}
use Rattle.px_diff.proofs.firsts.relevant_first.Goals as goal

pub unreachable-requires : goal.unreachable-requires
unreachable-requires c =
    let problem = c.args.problem.now in
    let tables = c.args.tables.now in
    let facts = c.args.model.now.atoms in
    let wanted = c.args.wanted.now in
    never-met problem tables facts wanted c.in-Err-ShapeLimit.field-0-0 c.requires.never c.atoms-facts.ensures.model.ascending
    (subst (λ (e : MoveErr). AtStop e (LimitsRelevant problem tables wanted [] facts)) c.in-Err-ShapeLimit.field-0-is
    c.in-Err-ShapeLimit.ensures.limited)

pub returns-in-Ok-clause-enough : goal.returns-in-Ok-clause-enough
returns-in-Ok-clause-enough c = λ part. (c.in-Ok.ensures.first.are_enough part).many
