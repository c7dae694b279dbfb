use Rattle.std.proofs.Common.{◌++◌, sym, subst}
use Rattle.std.proofs.lemmas.List.{append-nil}
use Rattle.px_rooms.specs.RobotCounts.{AreRobots}
use Rattle.px_rooms.proofs.start.with_thing.Goals as goal

pub returns-in-Some : goal.returns-in-Some
returns-in-Some c =
    λ before are. subst (λ rooms. AreRobots c.one_more.result (before ++ rooms)) (sym c.in-Some.ensures) (c.one_more.ensures before are)

pub returns-in-None : goal.returns-in-None
returns-in-None c =
    λ before are. subst (λ rooms. AreRobots c.args.robots (before ++ rooms)) (sym c.in-None.ensures)
    (subst (AreRobots c.args.robots) (sym (append-nil before)) are)
