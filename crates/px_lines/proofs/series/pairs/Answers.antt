use Rattle.px_lines.proofs.Common.{◌∙◌, ◌∷◌, [], Some, sym, ap, arith, common_steps}
use Rattle.px_script.specs.Items.{pairs}
use Rattle.px_lines.proofs.Walks.{made-whole, map-same, pair-advances, things-more, things-none, things-end}
use Rattle.px_lines.proofs.series.pairs.Goals as goal

pub things-preserved : goal.things-preserved
things-preserved c = let prefix = c.in-Some.ensures in
    things-more pair-advances c.things.invariant c.in-Some.pair c.in-Some.after.now prefix.0 prefix.1 _ (grind (arith, common_steps))

pub returns-then-ends : goal.returns-then-ends
returns-then-ends c = ap (λ things. Some (pairs things ∷ [])) (sym (map-same c.things.pairs.items))
    ∙ made-whole (λ things. pairs things ∷ []) c.args.text.now _ _
    (things-end pair-advances c.things.invariant c.in_default.ensures
    (sym c.ends.ensures ∙ c.if-ends.true))

pub returns : goal.returns
returns c = made-whole (λ things. pairs things ∷ []) c.args.text.now _ _
    (things-none pair-advances c.things.invariant c.in_default.ensures
    (sym c.ends.ensures ∙ c.if-ends.false))
