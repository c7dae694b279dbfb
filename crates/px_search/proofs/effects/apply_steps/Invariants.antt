use Rattle.std.proofs.Common.{◌≡◌, take}
use Rattle.px_terms.specs.Operators.{results_of}
use Rattle.px_search.proofs.effects.apply_steps.Given as goal

abbrev pub invariant-loop-step : goal.invariant-loop-step
invariant-loop-step l = l.model.atoms ≡ results_of l.problem l.initial.model.atoms (take l.step-index l.steps)
