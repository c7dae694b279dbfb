-- What the loop of `goal_variables` in src/line_variables.rt keeps true.
use Rattle.px_so_far.proofs.Common.{◌≡◌, map, take, fold, signed_view}
use Rattle.std.specs.Prelude.{max}
use Rattle.px_so_far.specs.LineVariables.{goal_number_of}
use Rattle.px_so_far.proofs.AtomTests.{arguments}
use Rattle.px_so_far.proofs.line_variables.goal_variables.Given as goal

abbrev pub invariant-loop-atom : goal.invariant-loop-atom
invariant-loop-atom l = l.greatest ≡ fold max 0 (map goal_number_of (arguments (map signed_view (take l.atom-index l.atoms))))
