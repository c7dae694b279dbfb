use Rattle.std.proofs.Common.{[], refl}
use Rattle.px_numbers.proofs.tests.are_stacks_numbered.Goals as goal

pub pushed-requires : goal.pushed-requires
pushed-requires g c = ([], refl)

pub pushed-requires-2 : goal.pushed-requires-2
pushed-requires-2 g c = ([], refl)
