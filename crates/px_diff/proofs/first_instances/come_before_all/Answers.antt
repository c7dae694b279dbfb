use Rattle.px_diff.proofs.FirstOrder.{come_before-most}
use Rattle.px_diff.proofs.first_instances.come_before_all.Goals as goal

pub returns : goal.returns
returns c =
    λ is full covered. come_before-most c.args.insts.now c.least_of_all-least.result full (c.come_before.ensures is)
    (c.least_of_all-least.ensures.partials full covered)
