use Rattle.px_turns.proofs.Admitting.{admit-both}
use Rattle.px_turns.proofs.running.run.Goals as goal

pub returns-clause-edits : goal.returns-clause-edits
returns-clause-edits g c =
    admit-both (g.W.World.admits c.args.world.now) (g.W.World.admits c.regrow.new.self)
    (g.W.World.admits c.take_turns-at_goal.new.world)
    (record { same = c.regrow.ensures.admitted }) c.take_turns-at_goal.ensures.edits
