use Rattle.px_lines.proofs.Common.{◌∙◌, ◌∷◌, [], sym, arith, common_steps}
use Rattle.px_script.specs.Items.{atoms}
use Rattle.px_lines.proofs.Walks.{made-whole, atom-advances, things-fewer, things-more, things-none, things-end}
use Rattle.px_lines.proofs.series.atoms.Goals as goal

pub things-smaller : goal.things-smaller
things-smaller c = let prefix = (rw c.in-Some.is at c.in_ok-atom.ensures) in
    things-fewer atom-advances c.things.invariant c.in-Some.atom c.in-Some.after.now prefix.0

pub things-preserved : goal.things-preserved
things-preserved c = let prefix = (rw c.in-Some.is at c.in_ok-atom.ensures) in
    things-more atom-advances c.things.invariant c.in-Some.atom c.in-Some.after.now prefix.0 prefix.1 _ (grind (arith, common_steps))

pub returns-then-ends : goal.returns-then-ends
returns-then-ends c = made-whole (λ things. atoms things ∷ []) c.args.text.now _ _
    (things-end atom-advances c.things.invariant (rw c.in_default.is at c.in_ok-atom.ensures)
    (sym c.ends.ensures ∙ c.if-ends.true))

pub returns : goal.returns
returns c = made-whole (λ things. atoms things ∷ []) c.args.text.now _ _
    (things-none atom-advances c.things.invariant (rw c.in_default.is at c.in_ok-atom.ensures)
    (sym c.ends.ensures ∙ c.if-ends.false))
