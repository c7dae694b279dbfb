use Rattle.px_so_far.proofs.Common.{◌≡◌, [], map, take, fold, with_variable, signed_view, text_of}
use Rattle.px_so_far.proofs.AtomTests.{arguments}
use Rattle.px_so_far.proofs.terms.variables.Given as goal

abbrev pub invariant-loop-atom : goal.invariant-loop-atom
invariant-loop-atom l = map text_of l.variables.items ≡ fold with_variable [] (arguments (map signed_view (take l.atom-index l.atoms)))
