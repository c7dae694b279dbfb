use Rattle.std.specs.Prelude.{◌≤◌}
use Rattle.std.proofs.Common.{sym, ap, ◌∙◌, arith}
use Rattle.px_rooms.specs.Changes.{instance_of_action}
use Rattle.px_rooms.proofs.Instances.{pick-last, read-action, reads-of}
use Rattle.px_rooms.proofs.world.RoomWorld.action_of.Goals as goal

pub returns-in-0 : goal.returns-in-0
returns-in-0 c = read-action c.args.self.now c.args.inst.now 0 _ _ _ _ c.requires (sym c.op.ensures ∙ c.in-0.is)
    (reads-of c.args.inst.now.args c.args-args.result.now _ _ _ _ c.args-args.ensures.value c.number_at-first.ensures
    c.number_at-second.ensures c.number_at-third.ensures c.number_at-fourth.ensures)

pub returns-in-1 : goal.returns-in-1
returns-in-1 c = read-action c.args.self.now c.args.inst.now 1 _ _ _ _ c.requires (sym c.op.ensures ∙ c.in-1.is)
    (reads-of c.args.inst.now.args c.args-args.result.now _ _ _ _ c.args-args.ensures.value c.number_at-first.ensures
    c.number_at-second.ensures c.number_at-third.ensures c.number_at-fourth.ensures)

pub returns-in-2 : goal.returns-in-2
returns-in-2 c = read-action c.args.self.now c.args.inst.now 2 _ _ _ _ c.requires (sym c.op.ensures ∙ c.in-2.is)
    (reads-of c.args.inst.now.args c.args-args.result.now _ _ _ _ c.args-args.ensures.value c.number_at-first.ensures
    c.number_at-second.ensures c.number_at-third.ensures c.number_at-fourth.ensures)

pub returns-in-3 : goal.returns-in-3
returns-in-3 c = read-action c.args.self.now c.args.inst.now 3 _ _ _ _ c.requires (sym c.op.ensures ∙ c.in-3.is)
    (reads-of c.args.inst.now.args c.args-args.result.now _ _ _ _ c.args-args.ensures.value c.number_at-first.ensures
    c.number_at-second.ensures c.number_at-third.ensures c.number_at-fourth.ensures)

pub returns-in-4 : goal.returns-in-4
returns-in-4 c = read-action c.args.self.now c.args.inst.now 4 _ _ _ _ c.requires (sym c.op.ensures ∙ c.in-4.is)
    (reads-of c.args.inst.now.args c.args-args.result.now _ _ _ _ c.args-args.ensures.value c.number_at-first.ensures
    c.number_at-second.ensures c.number_at-third.ensures c.number_at-fourth.ensures)

pub returns-in-5 : goal.returns-in-5
returns-in-5 c = read-action c.args.self.now c.args.inst.now 5 _ _ _ _ c.requires (sym c.op.ensures ∙ c.in-5.is)
    (reads-of c.args.inst.now.args c.args-args.result.now _ _ _ _ c.args-args.ensures.value c.number_at-first.ensures
    c.number_at-second.ensures c.number_at-third.ensures c.number_at-fourth.ensures)

pub returns-in_default : goal.returns-in_default
returns-in_default c =
    let last : 6 ≤ c.op.result = omega arith in
    read-action c.args.self.now c.args.inst.now c.op.result _ _ _ _ c.requires (sym c.op.ensures)
    (reads-of c.args.inst.now.args c.args-args.result.now _ _ _ _ c.args-args.ensures.value c.number_at-first.ensures
    c.number_at-second.ensures c.number_at-third.ensures c.number_at-fourth.ensures)
    ∙ ap instance_of_action (pick-last c.op.result _ _ _ _ last)
