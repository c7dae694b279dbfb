use Rattle.px_causes.proofs.Common.{sym, ◌∙◌, declared_of, statement_view}
use Rattle.px_causes.proofs.LineTests.{own-first}
use Rattle.px_causes.proofs.limits.passed_limit.Goals as goal

pub returns : goal.returns
returns c = own-first (declared_of c.args.so_far.now) (statement_view c.args.statement) c.args.line.now c.requires.same
    (sym (c.has_long_name.ensures (declared_of c.args.so_far.now)) ∙ c.if-has_long_name.false) c.own_limit.result c.own_limit.ensures
