use Rattle.px_so_far.proofs.Common.{◌≡◌, map, take, fold, with_variable, argument_view, text_of}
use Rattle.px_so_far.proofs.terms.add_variables.Given as goal

abbrev pub invariant-loop-argument : goal.invariant-loop-argument
invariant-loop-argument l = map text_of l.variables.items
    ≡ fold with_variable (map text_of l.initial.variables.items) (map argument_view (take l.argument-index l.arguments))
