use Rattle.std.proofs.Common.{◌-◌, length}
use Rattle.px_proof_state.proofs.Opening.{AreAsked}
use Rattle.px_proof_state.proofs.parts.open_formula.Given as goal

abbrev pub invariant-loop-done : goal.invariant-loop-done
invariant-loop-done l = AreAsked l.formula l.height l.goals.items l.first (length l.formula - l.done)
