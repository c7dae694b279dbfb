use Rattle.std.proofs.Common.{sym, subst, take}
use Rattle.px_terms.specs.declared.instance.OpInst.{OpInst}
use Rattle.px_diff.specs.Firsts.{IsNotAfter}
use Rattle.px_diff.proofs.FirstOrder.{eight_zeros, instance-least, zeros-all, zeros-long}
use Rattle.px_diff.proofs.first_instances.least_of.Goals as goal

pub returns : goal.returns
returns c = λ full stands.
    subst (λ (inst : OpInst). IsNotAfter inst full) (sym c.filled.ensures)
    (instance-least c.args.problem.now c.args.partial.now (take c.args.partial.now.variable_count eight_zeros) full c.requires.partial
    (zeros-long c.args.partial.now.variable_count c.requires.partial.few) (zeros-all c.args.partial.now.variable_count) stands)
