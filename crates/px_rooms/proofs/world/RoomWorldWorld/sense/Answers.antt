use Rattle.std.specs.Prelude.{◌≡◌, ◌≤◌, ◌+◌, length}
use Rattle.std.proofs.Common.{ap, ◌∙◌, subst, arith}
use Rattle.px_terms.specs.AtomSets.{atom_set}
use Rattle.px_rooms.specs.States.{all_atoms}
use Rattle.px_rooms.proofs.Sensing.{all-spare, below, below-all, below-longer, below-more, none-yet, pred-room}
use Rattle.px_rooms.proofs.world.RoomWorldWorld.sense.Goals as goal

pub loop-pred-init : goal.loop-pred-init
loop-pred-init c =
    record { atoms = none-yet c.args.self.now c.args.into.now.atoms c.requires.empty; spare = omega arith; few = omega arith }

pub add_facts-requires : goal.add_facts-requires
add_facts-requires c =
    record {
      room = pred-room c.args.self.now c.loop-pred.pred c.args.into.now.spare c.loop-pred.into.spare c.known.ensures.state
          c.requires.room c.loop-pred.invariant.spare;
    }

pub loop-pred-preserved : goal.loop-pred-preserved
loop-pred-preserved c =
    let all = all_atoms c.args.self.now in
    record {
      atoms = c.add_facts.ensures.atoms (below c.loop-pred.pred all) c.loop-pred.invariant.atoms ∙ below-more c.loop-pred.pred all;
      spare = omega (arith, c.add_facts.ensures.spare, c.loop-pred.invariant.spare, below-longer c.loop-pred.pred all);
      few = omega (arith, c.loop-pred-test.true);
    }

pub returns-clause-atoms : goal.returns-clause-atoms
returns-clause-atoms c =
    let all = all_atoms c.args.self.now in
    let last : c.loop-pred.pred ≡ 8 = omega (arith, c.loop-pred-test.false, c.loop-pred.invariant.few) in
    c.loop-pred.invariant.atoms ∙ ap (λ k. atom_set (below k all)) last ∙ ap atom_set (below-all c.args.self.now)

pub returns-clause-spare : goal.returns-clause-spare
returns-clause-spare c =
    let all = all_atoms c.args.self.now in
    let last : c.loop-pred.pred ≡ 8 = omega (arith, c.loop-pred-test.false, c.loop-pred.invariant.few) in
    all-spare c.args.self.now c.args.into.now.spare c.loop-pred.into.spare c.known.ensures.state
    (subst (λ k. c.args.into.now.spare ≤ c.loop-pred.into.spare + length (below k all)) last c.loop-pred.invariant.spare)
