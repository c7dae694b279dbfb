use Rattle.std.specs.Prelude.{All, length}
use Rattle.std.proofs.Common.{sym, ap, ◌∙◌, subst, arith}
use Rattle.px_rooms.specs.States.{IsRoomAt, StandsRight}
use Rattle.px_rooms.proofs.Beginning.{first-world}
use Rattle.px_rooms.proofs.world.RoomWorld.new.Goals as goal
use Rattle.px_rooms.proofs.world.RoomWorld.new.Goals.{then-is_room, else-is_room}

pub invariant_of-result : goal.invariant_of-result
invariant_of-result c = elim c.if-is_room.branch [
  | then-is_room w ↦
      first-world c.args.building.now.things c.as_slice-given.result.now c.in-One.robot_room c.in-Ok.things.items c.in-Ok-problem_of.rules _
      c.as_slice-given.ensures c.requires.short c.in-One.ensures c.in-Ok.ensures
      (subst (λ xs. IsRoomAt xs c.in-One.robot_room) c.deref.ensures.value (c.is_room.ensures.0 w.if-is_room.true))
      (subst (λ xs. All (StandsRight xs) xs) w.deref-then-is_room.ensures.value
      (w.all_stand_right.ensures.0 (sym w.value-is ∙ c.if-not-all_stand_right.false)))
      c.in-Ok-problem_of.ensures
      (omega (arith, c.requires.short, ap length c.as_slice-given.ensures))
  | else-is_room w ↦ let value = w.value-is in let was = w.if-is_room.false in let all = c.if-not-all_stand_right.false in absurd (cc)
]
