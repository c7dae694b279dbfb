use Rattle.px_effects.proofs.Common.{declared_of}
use Rattle.px_effects.proofs.Fresh.{line-lists}
use Rattle.px_statements.specs.StatementViews.{statement_view}
use Rattle.px_effects.proofs.declaring.declare.Goals as goal

pub add_line-requires-clause-fresh : goal.add_line-requires-clause-fresh
add_line-requires-clause-fresh c = λ other.
    line-lists c.args.line (declared_of c.args.so_far.now) (statement_view c.args.statement) c.requires.range c.requires.formed
    (c.requires.faultless other)
