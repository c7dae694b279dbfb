use Rattle.std.proofs.Common.{◌≡◌, map, take}
use Rattle.px_terms.specs.Language.{substitute, object_of}
use Rattle.px_gaps.proofs.choices.objects_by.Given as goal

abbrev pub invariant-loop-target : goal.invariant-loop-target
invariant-loop-target l = l.objects.items ≡ map (λ t. object_of (substitute l.terms t)) (take l.target-index l.targets)
