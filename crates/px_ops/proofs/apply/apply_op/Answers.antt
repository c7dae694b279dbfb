use Rattle.px_ops.proofs.OperatorLemmas.{result_is_short}
use Rattle.px_ops.proofs.apply.apply_op.Goals as goal

pub returns-clause-length : goal.returns-clause-length
returns-clause-length c =
    result_is_short c.args.problem.now c.args.inst.now c.args.model.now.atoms c.in_ok-next.next.atoms c.reserve.new.self.atoms
    c.apply_in.new.model.atoms
    c.apply_in.ensures.atoms c.reserve.ensures.atoms c.in_ok-next.ensures
