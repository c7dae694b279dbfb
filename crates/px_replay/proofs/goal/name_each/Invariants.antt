use Rattle.std.proofs.Common.{◌≡◌, ◌+◌, length, take}
use Rattle.std.specs.Prelude.{count_by}
use Rattle.px_replay.specs.FreshVariables.{is_object}
use Rattle.px_replay.specs.Opened.{named_args}
use Rattle.px_replay.proofs.goal.name_each.Given as goal

abbrev pub invariant-loop-i : goal.invariant-loop-i
invariant-loop-i l = record {
  long : length l.into ≡ length l.initial.into;
  prefix : take l.i l.into ≡ named_args l.names l.own l.first (take l.i l.args);
  next : l.next ≡ l.first + count_by is_object (take l.i l.args);
}
