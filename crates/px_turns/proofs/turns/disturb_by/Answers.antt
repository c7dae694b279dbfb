use Rattle.std.proofs.Common.{List, [], ◌∷◌, take, sym, subst}
use Rattle.px_base.proofs.Loops.{take_next}
use Rattle.px_turns.specs.Turning.{IsDisturbed}
use Rattle.px_turns.proofs.Disturbed.{disturbed-both}
use Rattle.px_turns.proofs.turns.disturb_by.Goals as goal

pub disturb-requires-clause-admitted : goal.disturb-requires-clause-admitted
disturb-requires-clause-admitted g c =
    let edit = c.edit-item.result in
    let here = subst (g.W.World.admits c.args.world.now) (sym c.edit-item.is)
    (c.requires.admitted c.loop-edit.edit-index edit c.loop-edit-test.true) in
    (c.loop-edit.invariant.taken.edits.same edit).1 here

pub loop-edit-preserved : goal.loop-edit-preserved
loop-edit-preserved g c =
    let edits = c.args.edits.now in
    let i = c.loop-edit.edit-index in
    let edit = c.edit-item.result in
    subst (λ (l : List g.row.W-Edit.Denot). IsDisturbed g.W.World.rules g.W.World.atoms g.W.World.spare g.W.World.admits g.W.World.leaves l
    c.args.world.now c.disturb.new.self)
    (sym (take_next edits i edit c.loop-edit-test.true c.edit-item.is))
    (disturbed-both g.W.World.rules g.W.World.atoms g.W.World.spare g.W.World.admits g.W.World.leaves (take i edits) (edit ∷ [])
    c.args.world.now c.loop-edit.world c.disturb.new.self c.loop-edit.invariant
    (record {
      atoms = c.disturb.ensures.atoms;
      taken = record {
        number = c.disturb.ensures.number;
        spare = c.disturb.ensures.spare;
        rules = c.disturb.ensures.rules;
        edits = record { same = c.disturb.ensures.admitted };
      };
    }))
