use Rattle.std.proofs.Common.{◌≤◌, ◌+◌, ap, ◌∙◌, length, arith}
use Rattle.px_planex.specs.Executors.{PlanexValue}
use Rattle.px_turns.specs.Turning.{places_of_action}
use Rattle.px_turns.proofs.Acting.{takes-none, takes-sensed}
use Rattle.px_turns.proofs.Admitting.{admit-both, all-later}
use Rattle.px_turns.proofs.turns.take_turn.Goals as goal

pub returns-in-Sensed-clause-takes : goal.returns-in-Sensed-clause-takes
returns-in-Sensed-clause-takes g c =
    let atoms = g.W.World.atoms in
    takes-sensed g.W.World.leaves c.args.planex.now c.args.recorded.now c.args.number c.step.new.self c.in-Sensed.kernel
    (atoms c.args.world.now) (atoms c.disturb_at.new.world) (atoms c.step.new.world)
    (atoms c.act_in_turn.new.world) c.act_in_turn.new.planex.memory c.act_in_turn.result c.disturb_at.ensures.atoms
    c.step.ensures.frame c.in-Sensed.ensures.happens c.act_in_turn.ensures.ends

pub returns-in-NoKernel-clause-takes : goal.returns-in-NoKernel-clause-takes
returns-in-NoKernel-clause-takes g c =
    let atoms = g.W.World.atoms in
    takes-none g.W.World.leaves c.args.planex.now c.args.recorded.now c.args.number (atoms c.args.world.now)
    (atoms c.disturb_at.new.world) (atoms c.step.new.world) c.step.new.self.memory
    c.disturb_at.ensures.atoms c.in-NoKernel.ensures.happens

pub act_in_turn-requires-clause-admitted : goal.act_in_turn-requires-clause-admitted
act_in_turn-requires-clause-admitted g c =
    let old = g.W.World.admits c.args.world.now in
    let mid = g.W.World.admits c.disturb_at.new.world in
    let new = g.W.World.admits c.step.new.world in
    all-later old new c.args.recorded.now
    (admit-both old mid new c.disturb_at.ensures.taken.edits (record { same = c.step.ensures.edits })) c.requires.admitted

pub returns-in-Goal-clause-taken : goal.returns-in-Goal-clause-taken
returns-in-Goal-clause-taken g c = record {
  number = omega (arith, c.disturb_at.ensures.taken.number, c.step.ensures.number);
  spare = omega (arith, c.disturb_at.ensures.taken.spare, c.step.ensures.spare);
  rules = c.step.ensures.rules ∙ c.disturb_at.ensures.taken.rules;
  edits = admit-both (g.W.World.admits c.args.world.now) (g.W.World.admits c.disturb_at.new.world)
      (g.W.World.admits c.step.new.world) c.disturb_at.ensures.taken.edits
      (record { same = c.step.ensures.edits });
}

pub returns-in-NoKernel-clause-taken : goal.returns-in-NoKernel-clause-taken
returns-in-NoKernel-clause-taken g c = record {
  number = omega (arith, c.disturb_at.ensures.taken.number, c.step.ensures.number);
  spare = omega (arith, c.disturb_at.ensures.taken.spare, c.step.ensures.spare);
  rules = c.step.ensures.rules ∙ c.disturb_at.ensures.taken.rules;
  edits = admit-both (g.W.World.admits c.args.world.now) (g.W.World.admits c.disturb_at.new.world)
      (g.W.World.admits c.step.new.world) c.disturb_at.ensures.taken.edits
      (record { same = c.step.ensures.edits });
}

pub returns-in-Sensed-clause-taken : goal.returns-in-Sensed-clause-taken
returns-in-Sensed-clause-taken g c =
    let old = g.W.World.admits c.args.world.now in
    let mid = g.W.World.admits c.disturb_at.new.world in
    let sensed = g.W.World.admits c.step.new.world in
    let frame = ap (λ (p : PlanexValue). places_of_action p.problem c.args.recorded.now c.args.number) c.step.ensures.frame in
    let number : length (g.W.World.atoms c.step.new.world) ≤ length (g.W.World.atoms c.disturb_at.new.world) + 0 = c.step.ensures.number in
    let spare : g.W.World.spare c.disturb_at.new.world ≤ g.W.World.spare c.step.new.world + 0 = c.step.ensures.spare in
    record {
      number = omega (arith, c.disturb_at.ensures.taken.number, number, c.act_in_turn.ensures.taken.number, frame);
      spare = omega (arith, c.disturb_at.ensures.taken.spare, spare, c.act_in_turn.ensures.taken.spare, frame);
      rules = c.act_in_turn.ensures.taken.rules ∙ c.step.ensures.rules ∙ c.disturb_at.ensures.taken.rules;
      edits = admit-both old sensed (g.W.World.admits c.act_in_turn.new.world)
          (admit-both old mid sensed c.disturb_at.ensures.taken.edits (record { same = c.step.ensures.edits }))
          c.act_in_turn.ensures.taken.edits;
    }
