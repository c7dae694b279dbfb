use Rattle.std.proofs.Common.{◌≡◌, ◌++◌, List}
use Rattle.px_table.specs.declared.entry.Entry.{Entry}
use Rattle.px_numbers.specs.Numbers.{IsStackAt}
use Rattle.px_numbers.proofs.making.stack_at.Given as goal

abbrev pub invariant-loop-frame : goal.invariant-loop-frame
invariant-loop-frame l = record {
  some : (left : List Entry) × IsStackAt l.numbers l.rest left;
  made : (entries : List Entry) → IsStackAt l.numbers l.stack entries
      → (left : List Entry) × IsStackAt l.numbers l.rest left × (entries ≡ l.entries.items ++ left);
}

abbrev pub decreases-loop-frame : goal.decreases-loop-frame
decreases-loop-frame l = l.rest
