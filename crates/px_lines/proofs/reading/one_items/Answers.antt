use Rattle.px_lines.proofs.Common.{◌∙◌, arith, common_steps, lexemes_in}
use Rattle.px_lines.proofs.Ones.{ones-ended, ones-more, ones-end}
use Rattle.px_script.specs.declared.kinds.One.TheVariants as one
use Rattle.px_lines.proofs.reading.one_items.Goals as goal

pub loop-one-preserved : goal.loop-one-preserved
loop-one-preserved c = (
  ones-more c.args.ones.now (lexemes_in c.args.text.now) (lexemes_in c.loop-one.rest.now) c.loop-one.one-index c.loop-one.items.items
      c.loop-one-test.true _ c.loop-one.invariant.0 _ _ c.in-Some.ensures.0 c.in-Some-one_item.item _ c.in-Some-one_item.ensures
      (grind (arith, common_steps)),
  grind (arith, common_steps, c.loop-one.invariant.1),
  (c.in-Some.ensures.1.0, c.in-Some.ensures.1.1 ∙ c.loop-one.invariant.2.1),
)

pub returns-in_default-clause-found : goal.returns-in_default-clause-found
returns-in_default-clause-found c = ones-ended c.args.ones.now (lexemes_in c.args.text.now) (lexemes_in c.loop-one.rest.now)
    c.loop-one.one-index c.loop-one.items.items c.loop-one-test.true one.Number c.loop-one.invariant.0 c.in_default.ensures

pub returns-clause-found : goal.returns-clause-found
returns-clause-found c = (
  ones-end c.args.ones.now (lexemes_in c.args.text.now) (lexemes_in c.loop-one.rest.now) c.loop-one.one-index c.loop-one.items.items
      c.loop-one-test.false c.loop-one.invariant.0,
  c.loop-one.invariant.2,
)
