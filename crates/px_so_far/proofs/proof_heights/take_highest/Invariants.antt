-- What the loop of `take_highest` in src/proof_heights.rt keeps true.
use Rattle.px_so_far.proofs.Common.{◌≡◌, take, drop}
use Rattle.std.specs.Prelude.{reverse}
use Rattle.px_script.specs.Faults.{highest}
use Rattle.px_so_far.proofs.proof_heights.take_highest.Given as goal

abbrev pub invariant-loop-taken : goal.invariant-loop-taken
invariant-loop-taken l = record {
  best : l.highest ≡ highest (take l.taken (reverse l.fn.heights.items));
  rest : reverse l.heights.items ≡ drop l.taken (reverse l.fn.heights.items);
}
