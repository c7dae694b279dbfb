use Rattle.px_planex.proofs.Taking.{instance_here, step_fits, step_here}
use Rattle.px_planex.proofs.acting.step_of.Goals as goal

pub returns : goal.returns
returns c =
    let at = rw c.as_slice.ensures at c.index-as_slice-number.is in
    record {
      step =
          step_here c.args.table.now c.args.objects.now c.args.number c.index-as_slice-number.result c.instance_with.result
          c.requires.number.0 c.requires.number.1 at c.instance_with.ensures;
      instance =
          instance_here c.args.problem.now c.args.table.now c.args.objects.now c.args.number c.index-as_slice-number.result
          c.instance_with.result
          c.requires.number.0 c.requires.number.1 at c.instance_with.ensures c.requires.table c.requires.objects;
      fits =
          step_fits c.args.problem.now c.args.table.now c.args.objects.now c.args.number c.index-as_slice-number.result
          c.instance_with.result c.requires.number.0 c.requires.number.1 at c.instance_with.ensures c.requires.problem
          c.requires.table c.requires.objects c.requires.fitting;
    }
