use Rattle.px_lines.proofs.Common.{◌∙◌, ◌∷◌, [], sym, arith, common_steps}
use Rattle.px_script.specs.Items.{room_edits}
use Rattle.px_lines.proofs.Walks.{made-whole, room-edit-advances, things-more, things-none, things-end}
use Rattle.px_lines.proofs.series.room_edits.Goals as goal

pub things-preserved : goal.things-preserved
things-preserved c = let prefix = c.in-Some.ensures in
    things-more room-edit-advances c.things.invariant c.in-Some.edit c.in-Some.after.now prefix.0 prefix.1 _ (grind (arith, common_steps))

pub returns-then-ends : goal.returns-then-ends
returns-then-ends c = made-whole (λ things. room_edits things ∷ []) c.args.text.now _ _
    (things-end room-edit-advances c.things.invariant c.in_default.ensures
    (sym c.ends.ensures ∙ c.if-ends.true))

pub returns : goal.returns
returns c = made-whole (λ things. room_edits things ∷ []) c.args.text.now _ _
    (things-none room-edit-advances c.things.invariant c.in_default.ensures
    (sym c.ends.ensures ∙ c.if-ends.false))
