use Rattle.std.proofs.Common.{◌≡◌, take}
use Rattle.px_question.specs.Answers.{object_terms}
use Rattle.px_gaps.specs.Bindings.{first_values}
use Rattle.px_gaps.proofs.bindings.first_objects.Given as goal

abbrev pub invariant-loop-term : goal.invariant-loop-term
invariant-loop-term l = l.filled.items ≡ object_terms (first_values (take l.term-index l.terms))
