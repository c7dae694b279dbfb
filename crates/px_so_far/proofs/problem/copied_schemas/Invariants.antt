-- What the loop of `copied_schemas` in src/problem.rt keeps true.
use Rattle.px_so_far.proofs.Common.{◌≡◌, take}
use Rattle.px_so_far.proofs.problem.copied_schemas.Given as goal

abbrev pub invariant-loop-schema : goal.invariant-loop-schema
invariant-loop-schema l = l.copies.items ≡ take l.schema-index l.schemas
