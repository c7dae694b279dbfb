use Rattle.std.proofs.Common.{◌≡◌, take}
use Rattle.px_turns.specs.Turning.{edits_in}
use Rattle.px_turns.proofs.running.count_edits.Given as goal

abbrev pub invariant-loop-one : goal.invariant-loop-one
invariant-loop-one g l = l.count ≡ edits_in (take l.one-index l.recorded)
