use Rattle.std.proofs.Common.{length}
use Rattle.px_terms.specs.declared.atom.Atom.{Atom}
use Rattle.px_terms.specs.Language.{IsVariableBelow}
use Rattle.px_edit.proofs.PartSteps.{part-within}
use Rattle.px_edit.proofs.building.named_goal.Goals as goal

pub apply-requires : goal.apply-requires
apply-requires c =
    part-within (λ (atom : Atom). atom.args) (IsVariableBelow (length c.args.names.now)) c.args.goal.now c.loop-atom.atom-index
    c.atom-item.result c.loop-atom-test.true c.atom-item.is c.requires
