use Rattle.std.proofs.Common.{◌≡◌, map, take}
use Rattle.px_terms.specs.Language.{object_of}
use Rattle.px_entries.proofs.parameters.objects_of.Given as goal

abbrev pub invariant-loop-term : goal.invariant-loop-term
invariant-loop-term l = l.objects.items ≡ map object_of (take l.term-index l.terms)
