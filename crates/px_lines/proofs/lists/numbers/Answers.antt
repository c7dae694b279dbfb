use Rattle.px_lines.proofs.Common.{◌∙◌, ◌∷◌, [], Some, sym, ap, if_whole, lexemes_in, arith, common_steps}
use Rattle.px_script.specs.Items.{amounts}
use Rattle.px_lines.proofs.Walks.{made-whole, number-advances, things-more, things-none, things-end, numbers-are, map-same}
use Rattle.px_lines.proofs.lists.numbers.Goals as goal

pub things-preserved : goal.things-preserved
things-preserved c = let prefix = c.in-Some.ensures in
    things-more number-advances c.things.invariant c.in-Some.number c.in-Some.after.now prefix.0 prefix.1 _ (grind (arith, common_steps))

pub returns-then-ends : goal.returns-then-ends
returns-then-ends c = ap (λ things. Some (amounts things ∷ [])) (sym (map-same c.things.numbers.items))
    ∙ made-whole (λ things. amounts things ∷ []) c.args.text.now _ _
    (things-end number-advances c.things.invariant c.in_default.ensures
    (sym c.ends.ensures ∙ c.if-ends.true) ∙ ap (if_whole c.args.text.now) (numbers-are (lexemes_in c.args.text.now)))

pub returns : goal.returns
returns c = made-whole (λ things. amounts things ∷ []) c.args.text.now _ _
    (things-none number-advances c.things.invariant c.in_default.ensures
    (sym c.ends.ensures ∙ c.if-ends.false) ∙ ap (if_whole c.args.text.now) (numbers-are (lexemes_in c.args.text.now)))
