use Rattle.std.proofs.Common.{take}
use Rattle.px_ops.specs.Keeping.{AreOnce, KeepsPlaces}
use Rattle.px_numbers.specs.Numbers.{AreNumbersOf}
use Rattle.px_numbers.proofs.numbers.numbers_of.Given as goal

abbrev pub invariant-loop-atom : goal.invariant-loop-atom
invariant-loop-atom l = record {
  places : KeepsPlaces l.initial.index l.index;
  once : AreOnce l.initial.index → AreOnce l.index;
  numbers : AreNumbersOf l.index l.numbers.items (take l.atom-index l.atoms);
}
