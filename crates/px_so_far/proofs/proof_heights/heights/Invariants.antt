-- What the loop of `heights` in src/proof_heights.rt keeps true.
use Rattle.px_so_far.proofs.Common.{◌≡◌, ◌-◌, map, drop, length}
use Rattle.std.specs.Prelude.{reverse}
use Rattle.px_script.specs.Faults.{heights_of}
use Rattle.px_lines.specs.ItemViews.{part_view}
use Rattle.px_so_far.proofs.proof_heights.heights.Given as goal

abbrev pub invariant-loop-done : goal.invariant-loop-done
invariant-loop-done l = record {
  made : reverse l.made.items ≡ heights_of (map part_view (drop (length l.parts - l.done) l.parts));
}
