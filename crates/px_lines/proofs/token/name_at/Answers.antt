use Rattle.px_lines.proofs.Common.{◌≡◌, ◌∙◌, ◌++◌, ◌-◌, length, take, arith, common_steps, true, encode_utf8, starts_name}
use Rattle.unicode_ident.specs.Ident.{is_xid_continue}
use Rattle.px_lines.proofs.Texts.{first-whole, first-cut, skipped, cut-boundary}
use Rattle.px_lines.proofs.token.name_at.Goals as goal

pub range-requires-clause-end_boundary : goal.range-requires-clause-end_boundary
range-requires-clause-end_boundary c =
    let text = c.args.text.now in let rest = c.skip_while-rest.result.now in let skip = c.skip_while-rest.ensures in
    let whole = first-whole is_xid_continue text c.in_ok-first.others.now rest c.in_ok-first.first c.in_ok-first.ensures.bytes skip in
    cut-boundary text (encode_utf8 c.in_ok-first.first ++ skip.prefix) rest whole c.skip_while-rest.utf8

pub returns-then-starts_name : goal.returns-then-starts_name
returns-then-starts_name c =
    let text = c.args.text.now in let others = c.in_ok-first.others.now in let rest = c.skip_while-rest.result.now in
    let first = c.in_ok-first.first in let utf8 = c.in_ok-first.ensures.text in
    let starts : starts_name first ≡ true = grind (arith, c.starts_name.ensures, c.if-starts_name.true) in
    let cut = first-cut is_xid_continue text others rest first c.in_ok-first.ensures.bytes c.skip_while-rest.ensures utf8
    c.skip_while-rest.utf8 in
    let taken : c.range.result.now ≡ take (length text - length rest) text = grind (arith, common_steps) in
    rw c.in_ok-first.ensures.characters (
      starts,
      taken ∙ cut,
      skipped is_xid_continue others rest utf8 c.skip_while-rest.utf8 c.skip_while-rest.ensures,
      c.skip_while-rest.utf8,
    )
