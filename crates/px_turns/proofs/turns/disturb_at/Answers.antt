use Rattle.std.proofs.Common.{◌≡◌, ◌≤◌, ◌+◌, List, All, true, false, length, take, sym, ap, ◌∙◌, subst}
use Rattle.px_planex.specs.Turns.{Recorded, edits_at}
use Rattle.px_turns.specs.Turning.{IsDisturbed}
use Rattle.px_turns.proofs.Admitting.{admitted-later}
use Rattle.px_turns.proofs.Disturbed.{disturbed-next, disturbed-none, spare-next}
use Rattle.px_turns.proofs.turns.disturb_at.Goals.{then-is_for, else-is_for}
use Rattle.px_turns.proofs.turns.disturb_at.Goals as goal

pub disturb_by-requires-clause-spare : goal.disturb_by-requires-clause-spare
disturb_by-requires-clause-spare g c =
    let edits : c.as_slice.result.now ≡ c.one-item.result.edits =
    c.as_slice.ensures ∙ ap (λ (r : Recorded g.row.W-Edit.Denot). r.edits) c.one.view_is in
    subst (λ (l : List g.row.W-Edit.Denot). length l ≤ g.W.World.spare c.loop-one.world) (sym edits)
    (spare-next c.args.number c.args.between c.args.recorded.now c.loop-one.one-index c.one-item.result c.loop-one-test.true c.one-item.is
    (sym c.is_for.ensures ∙ c.if-is_for.true) (g.W.World.spare c.args.world.now)
    (g.W.World.spare c.loop-one.world) c.requires.spare c.loop-one.invariant.taken.spare)

pub disturb_by-requires-clause-admitted : goal.disturb_by-requires-clause-admitted
disturb_by-requires-clause-admitted g c =
    let one = c.one-item.result in
    let edits : c.as_slice.result.now ≡ one.edits = c.as_slice.ensures ∙ ap (λ (r : Recorded g.row.W-Edit.Denot). r.edits) c.one.view_is in
    let here = subst (λ (r : Recorded g.row.W-Edit.Denot). All (g.W.World.admits c.args.world.now) r.edits) (sym c.one-item.is)
    (c.requires.admitted c.loop-one.one-index one c.loop-one-test.true) in
    subst (All (g.W.World.admits c.loop-one.world)) (sym edits)
    (admitted-later (g.W.World.admits c.args.world.now) (g.W.World.admits c.loop-one.world) one.edits
    c.loop-one.invariant.taken.edits here)

pub loop-one-preserved : goal.loop-one-preserved
loop-one-preserved g c =
    let recorded = c.args.recorded.now in
    let i = c.loop-one.one-index in
    let one = c.one-item.result in
    let rules = g.W.World.rules in
    let atoms = g.W.World.atoms in
    let spare = g.W.World.spare in
    let admits = g.W.World.admits in
    let leaves = g.W.World.leaves in
    let Left : g.row.W.Denot → Type 0 = λ world.
    IsDisturbed rules atoms spare admits leaves (edits_at (take (i + 1) recorded) c.args.number c.args.between) c.args.world.now world in
    elim c.if-is_for.branch [
      | then-is_for w ↦
          subst Left (sym w.world-is)
          (disturbed-next rules atoms spare admits leaves c.args.number c.args.between recorded i one c.loop-one-test.true c.one-item.is
          true (sym c.is_for.ensures ∙ w.if-is_for.true)
          c.args.world.now c.loop-one.world w.disturb_by.new.world c.loop-one.invariant
          (subst (λ (l : List g.row.W-Edit.Denot). IsDisturbed rules atoms spare admits leaves l c.loop-one.world w.disturb_by.new.world)
          (w.as_slice.ensures ∙ ap (λ (r : Recorded g.row.W-Edit.Denot). r.edits) c.one.view_is) w.disturb_by.ensures))
      | else-is_for w ↦
          subst Left (sym w.world-is)
          (disturbed-next rules atoms spare admits leaves c.args.number c.args.between recorded i one c.loop-one-test.true c.one-item.is
          false (sym c.is_for.ensures ∙ w.if-is_for.false)
          c.args.world.now c.loop-one.world c.loop-one.world c.loop-one.invariant
          (disturbed-none rules atoms spare admits leaves c.loop-one.world))
    ]
