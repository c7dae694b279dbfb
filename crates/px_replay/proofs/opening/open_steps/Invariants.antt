use Rattle.std.proofs.Common.{◌≡◌, take}
use Rattle.px_replay.specs.Opened.{opened_steps, step_variables}
use Rattle.px_replay.proofs.opening.open_steps.Given as goal

abbrev pub invariant-loop-inst : goal.invariant-loop-inst
invariant-loop-inst l = record {
  made : l.made.items ≡ opened_steps 0 (take l.inst-index l.steps);
  next : l.next ≡ step_variables (take l.inst-index l.steps);
}
