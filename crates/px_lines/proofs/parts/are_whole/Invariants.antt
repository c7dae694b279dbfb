-- What the loop of `are_whole` in src/parts.rt keeps true.
use Rattle.std.specs.Prelude.{◌≡◌, drop, fold, map}
use Rattle.px_script.specs.Items.{owed}
use Rattle.px_lines.specs.ItemViews.{part_view}
use Rattle.px_lines.proofs.parts.are_whole.Given as goal

abbrev pub invariant-loop-place : goal.invariant-loop-place
invariant-loop-place l = fold owed l.owed (map part_view (drop l.place l.parts)) ≡ fold owed 0 (map part_view l.parts)
