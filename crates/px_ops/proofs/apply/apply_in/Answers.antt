use Rattle.px_terms.specs.ValidityLaws.{result_of-is_result}
use Rattle.px_ops.proofs.apply.apply_in.Goals as goal

pub returns-clause-result : goal.returns-clause-result
returns-clause-result c =
    rw c.replace.ensures.atoms (result_of-is_result c.args.problem.now c.args.inst.now c.args.model.now.atoms c.requires.problem
    c.requires.inst)
