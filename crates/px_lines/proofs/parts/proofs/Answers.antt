use Rattle.px_lines.proofs.Common.{◌∙◌, ◌∷◌, [], sym, arith, common_steps}
use Rattle.px_script.specs.Items.{proofs}
use Rattle.px_lines.proofs.Walks.{made-whole, part-advances, things-fewer, things-more, things-none, things-end}
use Rattle.px_lines.proofs.parts.proofs.Goals as goal

pub things-smaller : goal.things-smaller
things-smaller c = let prefix = (rw c.in-Some.is at c.in_ok-part.ensures) in
    things-fewer part-advances c.things.invariant c.in-Some.part c.in-Some.after.now prefix.0

pub things-preserved : goal.things-preserved
things-preserved c = let prefix = (rw c.in-Some.is at c.in_ok-part.ensures) in
    things-more part-advances c.things.invariant c.in-Some.part c.in-Some.after.now prefix.0 prefix.1 _ (grind (arith, common_steps))

pub returns-then-ends : goal.returns-then-ends
returns-then-ends c = made-whole (λ things. proofs things ∷ []) c.args.text.now _ _
    (things-end part-advances c.things.invariant (rw c.in_default.is at c.in_ok-part.ensures)
    (sym c.ends.ensures ∙ c.if-ends.true))

pub returns : goal.returns
returns c = made-whole (λ things. proofs things ∷ []) c.args.text.now _ _
    (things-none part-advances c.things.invariant (rw c.in_default.is at c.in_ok-part.ensures)
    (sym c.ends.ensures ∙ c.if-ends.false))
