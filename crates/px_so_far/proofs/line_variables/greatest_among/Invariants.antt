-- What the loop of `greatest_among` in src/line_variables.rt keeps true.
use Rattle.px_so_far.proofs.Common.{◌≡◌, map, take, fold, argument_view}
use Rattle.std.specs.Prelude.{max}
use Rattle.px_so_far.specs.LineVariables.{goal_number_of}
use Rattle.px_so_far.proofs.line_variables.greatest_among.Given as goal

abbrev pub invariant-loop-argument : goal.invariant-loop-argument
invariant-loop-argument l = l.greatest ≡ fold max l.other (map (λ a. goal_number_of (argument_view a)) (take l.argument-index l.arguments))
