use Rattle.px_demo.proofs.Texts.{building-grows, on-ok}
use Rattle.px_demo.proofs.script.push_building.Goals as goal

pub returns : goal.returns
returns c = on-ok c.push_things.result _ _
    (building-grows c.args.rooms _ _ _ _ _ c.in_ok-push_start.ensures c.in_ok-push_rooms.ensures c.in_ok-push_doors.ensures)
    c.push_things.ensures
