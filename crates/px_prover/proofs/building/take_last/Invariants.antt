use Rattle.std.proofs.Common.{◌≡◌, take, drop, reverse}
use Rattle.px_prover.proofs.building.take_last.Given as goal

abbrev pub invariant-loop-taken : goal.invariant-loop-taken
invariant-loop-taken l = record {
  parts : l.parts.items ≡ take l.taken (reverse l.fn.made.items);
  rest : reverse l.made.items ≡ drop l.taken (reverse l.fn.made.items);
}
