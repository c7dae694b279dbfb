use Rattle.px_lines.proofs.Common.{◌∙◌, sym, ap, if_whole, lexemes_in, arith, common_steps}
use Rattle.px_lines.proofs.Walks.{name-advances, things-more, things-none, things-end, names-are}
use Rattle.px_lines.proofs.lists.names.Goals as goal

pub things-preserved : goal.things-preserved
things-preserved c = let prefix = c.in-Some.ensures in
    things-more name-advances c.things.invariant c.in-Some.name c.in-Some.after.now prefix.0 prefix.1 _ (grind (arith, common_steps))

pub returns-then-ends : goal.returns-then-ends
returns-then-ends c = things-end name-advances c.things.invariant c.in_default.ensures
    (sym c.ends.ensures ∙ c.if-ends.true) ∙ ap (if_whole c.args.text.now) (names-are (lexemes_in c.args.text.now))

pub returns : goal.returns
returns c = things-none name-advances c.things.invariant c.in_default.ensures
    (sym c.ends.ensures ∙ c.if-ends.false) ∙ ap (if_whole c.args.text.now) (names-are (lexemes_in c.args.text.now))
