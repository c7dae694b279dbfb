use Rattle.px_edit.proofs.Flags.{numbers-all}
use Rattle.px_edit.proofs.keeping.flagged.Goals as goal

pub returns-clause-in_order : goal.returns-clause-in_order
returns-clause-in_order c = c.loop-k.invariant.in_order

pub returns-clause-exact : goal.returns-clause-exact
returns-clause-exact c = numbers-all c.args.flags.now c.loop-k.k c.loop-k.numbers.items c.loop-k-test.false c.loop-k.invariant
