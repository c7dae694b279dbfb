use Rattle.std.proofs.Common.{map, take}
use Rattle.px_table.specs.declared.entry.Move.TheVariants.{Push}
use Rattle.px_numbers.specs.Numbers.{KeepsAll}
use Rattle.px_search.specs.Steps.{AreStepsOf}
use Rattle.px_search.proofs.picks.numbered.Given as goal

abbrev pub invariant-loop-place : goal.invariant-loop-place
invariant-loop-place l = record {
  keeps : KeepsAll l.initial.numbers l.numbers;
  steps : AreStepsOf l.numbers l.steps.items (map Push (take l.place l.entries.items));
}
