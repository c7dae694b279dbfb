use Rattle.std.proofs.Common.{◌≡◌, take}
use Rattle.px_rooms.specs.States.{standings}
use Rattle.px_rooms.proofs.start.first_things.Given as goal

abbrev pub invariant-loop-thing : goal.invariant-loop-thing
invariant-loop-thing l = l.first.items ≡ standings (take l.thing-index l.things)
