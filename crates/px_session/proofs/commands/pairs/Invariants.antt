use Rattle.std.proofs.Common.{◌≡◌, take}
use Rattle.px_session.proofs.commands.pairs.Given as goal

abbrev pub invariant-loop-binding : goal.invariant-loop-binding
invariant-loop-binding l = l.bound.items ≡ take l.binding-index l.bindings
