use Rattle.px_causes.proofs.Common.{sym, ◌∙◌}
use Rattle.px_causes.proofs.LineTests.{long-first, long-then}
use Rattle.px_causes.proofs.limits.has_long_name.Goals as goal

pub returns-then-any_one_long : goal.returns-then-any_one_long
returns-then-any_one_long c = λ d. c.if-any_one_long.true ∙ sym (long-first d c.args.line.now c.deref.result.now c.deref.ensures.value
    (sym c.any_one_long.ensures ∙ c.if-any_one_long.true))

pub returns-else-any_one_long : goal.returns-else-any_one_long
returns-else-any_one_long c = λ d. c.rest_is_long.ensures ∙ sym (long-then d c.args.line.now c.deref.result.now c.deref.ensures.value
    (sym c.any_one_long.ensures ∙ c.if-any_one_long.false))
