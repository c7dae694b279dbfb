use Rattle.std.proofs.Common.{◌≡◌, take, map}
use Rattle.px_terms.specs.Substitution.{substitute_instance}
use Rattle.px_edit.proofs.building.named_steps.Given as goal

abbrev pub invariant-loop-inst : goal.invariant-loop-inst
invariant-loop-inst l = l.made.items ≡ map (substitute_instance l.names) (take l.inst-index l.steps)
