use Rattle.px_lines.proofs.Common.{◌≡◌, arith, common_steps, is_of}
use Rattle.px_lines.proofs.Texts.{prefix-ends, cut-boundary, cut-prefix}
use Rattle.px_lines.proofs.token.split_while.Goals as goal

pub range-requires-clause-end_boundary : goal.range-requires-clause-end_boundary
range-requires-clause-end_boundary c = let skip
    = c.skip_while-rest.ensures in cut-boundary c.args.text.now skip.prefix c.skip_while-rest.result.now skip.whole c.skip_while-rest.utf8

pub returns-clause-prefix : goal.returns-clause-prefix
returns-clause-prefix c =
    let skip = c.skip_while-rest.ensures in
    let ends = prefix-ends (is_of c.args.class) c.args.text.now skip.prefix c.skip_while-rest.result.now c.utf8.text skip.whole
    c.skip_while-rest.utf8 skip.all skip.stop in
    let cut : c.range.result.now ≡ skip.prefix
    = grind (arith, common_steps, cut-prefix c.args.text.now skip.prefix c.skip_while-rest.result.now skip.whole) in
    rw cut ends.0

pub returns-clause-after : goal.returns-clause-after
returns-clause-after c =
    let skip = c.skip_while-rest.ensures in
    (prefix-ends (is_of c.args.class) c.args.text.now skip.prefix c.skip_while-rest.result.now c.utf8.text skip.whole
    c.skip_while-rest.utf8 skip.all skip.stop).1
