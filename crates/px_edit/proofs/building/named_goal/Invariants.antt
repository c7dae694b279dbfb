use Rattle.std.proofs.Common.{◌≡◌, take, map}
use Rattle.px_terms.specs.Substitution.{substitute_atom}
use Rattle.px_edit.proofs.building.named_goal.Given as goal

abbrev pub invariant-loop-atom : goal.invariant-loop-atom
invariant-loop-atom l = l.made.items ≡ map (substitute_atom l.names) (take l.atom-index l.goal)
