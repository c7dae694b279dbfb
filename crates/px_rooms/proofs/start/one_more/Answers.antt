use Rattle.px_rooms.proofs.Starting.{first-robot, later-robot, second-robot}
use Rattle.px_rooms.proofs.start.one_more.Goals as goal

pub returns-in-None : goal.returns-in-None
returns-in-None c = λ before are. first-robot c.args.robots c.args.room before c.in-None.is are

pub returns-in-One : goal.returns-in-One
returns-in-One c = λ before are. second-robot c.args.robots _ c.args.room before c.in-One.is are

pub returns-in-Several : goal.returns-in-Several
returns-in-Several c = λ before are. later-robot c.args.robots c.args.room before c.in-Several.is are
