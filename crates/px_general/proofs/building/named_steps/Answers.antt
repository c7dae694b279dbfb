use Rattle.std.proofs.Common.{length}
use Rattle.px_terms.specs.declared.instance.OpInst.{OpInst}
use Rattle.px_terms.specs.Language.{IsVariableBelow}
use Rattle.px_general.proofs.BuildSteps.{part-within}
use Rattle.px_general.proofs.building.named_steps.Goals as goal

pub apply_inst-requires : goal.apply_inst-requires
apply_inst-requires c =
    part-within (λ (inst : OpInst). inst.args) (IsVariableBelow (length c.args.names.now)) c.args.steps.now c.loop-inst.inst-index
    c.inst-item.result c.loop-inst-test.true c.inst-item.is c.requires
