use Rattle.std.proofs.Common.{◌≡◌, take}
use Rattle.px_question.specs.Answers.{object_terms}
use Rattle.px_prover.proofs.building.terms_of.Given as goal

abbrev pub invariant-loop-object : goal.invariant-loop-object
invariant-loop-object l = l.terms.items ≡ object_terms (take l.object-index l.objects)
