use Rattle.px_lines.proofs.Common.{◌≡◌, ◌∙◌, ◌++◌, ◌∷◌, [], false, map, arith, ◌==◌, common_steps, map-append, argument_of, lexemes_in, argument_view}
use Rattle.px_lines.proofs.Walks.{items-closed, items-wrong, items-more, items-none, item-shorter}
use Rattle.px_lines.proofs.lists.arguments_after.Goals as goal

pub loop-argument-smaller : goal.loop-argument-smaller
loop-argument-smaller c = item-shorter argument_of (lexemes_in c.loop-argument.rest.now) _ c.in-Some.ensures.0

pub returns-then-sign-eq41 : goal.returns-then-sign-eq41
returns-then-sign-eq41 c =
    let pushed : c.push.new.self.items ≡ c.loop-argument.arguments.items ++ c.in-Some.argument ∷ [] = grind (arith, common_steps) in (
      rw (pushed, map-append) (items-closed argument_of (lexemes_in c.args.text.now) (lexemes_in c.loop-argument.rest.now)
          (map argument_view c.loop-argument.arguments.items) c.loop-argument.invariant.0 _ c.in-Some.sign _ c.in-Some.ensures.0
          c.if-sign-eq41.true),
      (c.in-Some.ensures.1.0, c.in-Some.ensures.1.1 ∙ c.loop-argument.invariant.1.1),
    )

pub returns-then-sign-ne44 : goal.returns-then-sign-ne44
returns-then-sign-ne44 c =
    let not_close : (c.in-Some.sign == 41) ≡ false = grind (arith, c.if-sign-eq41.false) in
    let not_comma : (c.in-Some.sign == 44) ≡ false = grind (arith, c.if-sign-ne44.true) in
    items-wrong argument_of (lexemes_in c.args.text.now) (lexemes_in c.loop-argument.rest.now)
    (map argument_view c.loop-argument.arguments.items) c.loop-argument.invariant.0 _ c.in-Some.sign _ c.in-Some.ensures.0 not_close not_comma

pub loop-argument-preserved : goal.loop-argument-preserved
loop-argument-preserved c =
    let pushed : c.push.new.self.items ≡ c.loop-argument.arguments.items ++ c.in-Some.argument ∷ [] = grind (arith, common_steps) in (
      rw (pushed, map-append) (items-more argument_of (lexemes_in c.args.text.now) (lexemes_in c.loop-argument.rest.now)
          (map argument_view c.loop-argument.arguments.items) c.loop-argument.invariant.0 _ c.in-Some.sign _ c.in-Some.ensures.0
          c.if-sign-ne44.false),
      (c.in-Some.ensures.1.0, c.in-Some.ensures.1.1 ∙ c.loop-argument.invariant.1.1),
    )

pub returns : goal.returns
returns c = items-none argument_of (lexemes_in c.args.text.now) (lexemes_in c.loop-argument.rest.now)
    (map argument_view c.loop-argument.arguments.items) c.loop-argument.invariant.0 c.in_default.ensures
