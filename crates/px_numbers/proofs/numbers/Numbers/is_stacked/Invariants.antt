use Rattle.std.proofs.Common.{List}
use Rattle.px_table.specs.declared.entry.Entry.{Entry}
use Rattle.px_numbers.specs.Numbers.{IsStackAt}
use Rattle.px_numbers.proofs.NumberSteps.{IsLookedFor}
use Rattle.px_numbers.proofs.numbers.Numbers.is_stacked.Given as goal

abbrev pub invariant-loop-rest : goal.invariant-loop-rest
invariant-loop-rest l = record {
  some : (entries : List Entry) × IsStackAt l.self l.rest entries;
  looked : IsLookedFor l.self l.stack l.entry l.rest;
}

abbrev pub decreases-loop-rest : goal.decreases-loop-rest
decreases-loop-rest l = l.rest
