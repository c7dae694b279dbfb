use Rattle.std.proofs.Common.{◌≡◌, ◌++◌, take}
use Rattle.px_general.specs.General.{step_terms}
use Rattle.px_general.proofs.walking.add_steps.Given as goal

abbrev pub invariant-loop-inst : goal.invariant-loop-inst
invariant-loop-inst l = l.walked.items ≡ l.initial.walked.items ++ step_terms (take l.inst-index l.steps)
