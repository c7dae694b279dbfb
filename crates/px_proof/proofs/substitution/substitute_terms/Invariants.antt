use Rattle.std.proofs.Common.{◌≡◌, map, take}
use Rattle.px_terms.specs.Language.{substitute}
use Rattle.px_proof.proofs.substitution.substitute_terms.Given as goal

abbrev pub invariant-loop-term : goal.invariant-loop-term
invariant-loop-term l = l.made.items ≡ map (substitute l.map) (take l.term-index l.terms)
