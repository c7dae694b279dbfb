use Rattle.std.proofs.Common.{◌∙◌, inl, inr, arith}
use Rattle.px_planex.specs.Execution.{remembered_step}
use Rattle.px_turns.proofs.Acting.{act-ends}
use Rattle.px_turns.proofs.Admitting.{admit-both}
use Rattle.px_turns.proofs.RunPlaces.{places-few}
use Rattle.px_turns.proofs.turns.act_in_turn.Goals.{in-Acted, in-Slipped}
use Rattle.px_turns.proofs.turns.act_in_turn.Goals as goal

pub step-requires-clause-places : goal.step-requires-clause-places
step-requires-clause-places g c =
    let few = places-few c.args.planex.now.problem (remembered_step c.args.planex.now.table c.args.planex.now.memory) in
    omega (arith, few, c.requires.places.spare, c.disturb_at.ensures.taken.spare)

pub returns-clause-ends : goal.returns-clause-ends
returns-clause-ends g c =
    let atoms = g.W.World.atoms in
    elim c.match-step.branch [
      | in-Acted w ↦
          act-ends g.W.World.leaves c.args.planex.now c.args.recorded.now c.args.number c.args.kernel (atoms c.args.world.now)
          (atoms c.disturb_at.new.world) (atoms c.step.new.world) c.step.new.self.memory
          c.action-op.result c.match-step.end c.step.result c.disturb_at.ensures.atoms c.action-op.ensures.step c.step.ensures.happens
          (inl (w.in-Acted.is, w.end-is))
      | in-Slipped w ↦
          act-ends g.W.World.leaves c.args.planex.now c.args.recorded.now c.args.number c.args.kernel (atoms c.args.world.now)
          (atoms c.disturb_at.new.world) (atoms c.step.new.world) c.step.new.self.memory
          c.action-op.result c.match-step.end c.step.result c.disturb_at.ensures.atoms c.action-op.ensures.step c.step.ensures.happens
          (inr (w.in-Slipped.is, w.end-is))
    ]

pub returns-clause-taken : goal.returns-clause-taken
returns-clause-taken g c =
    let few = places-few c.args.planex.now.problem (remembered_step c.args.planex.now.table c.args.planex.now.memory) in
    record {
      number = omega (arith, few, c.disturb_at.ensures.taken.number, c.step.ensures.number);
      spare = omega (arith, few, c.disturb_at.ensures.taken.spare, c.step.ensures.spare);
      rules = c.step.ensures.rules ∙ c.disturb_at.ensures.taken.rules;
      edits = admit-both (g.W.World.admits c.args.world.now) (g.W.World.admits c.disturb_at.new.world)
          (g.W.World.admits c.step.new.world) c.disturb_at.ensures.taken.edits
          (record { same = c.step.ensures.edits });
    }
