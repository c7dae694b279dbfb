use Rattle.std.proofs.Common.{◌≡◌, ◌+◌, take}
use Rattle.px_replay.specs.Opened.{goal_objects, named_goal}
use Rattle.px_replay.proofs.goal.named_goal.Given as goal

abbrev pub invariant-loop-atom : goal.invariant-loop-atom
invariant-loop-atom l = record {
  made : l.made.items ≡ named_goal l.names l.own l.first (take l.atom-index l.goal);
  next : l.next ≡ l.first + goal_objects (take l.atom-index l.goal);
}
