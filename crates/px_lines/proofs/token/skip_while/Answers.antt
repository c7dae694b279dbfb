use Rattle.px_lines.proofs.Common.{◌≡◌, ◌++◌, [], true, refl, arith, encode_utf8, chars-nil, is_of}
use Rattle.px_lines.proofs.Texts.{prefix-grows}
use Rattle.px_lines.proofs.token.skip_while.Goals as goal

pub loop-first-init : goal.loop-first-init
loop-first-init c = ([], refl, c.utf8.text, rw chars-nil refl)

pub loop-first-preserved : goal.loop-first-preserved
loop-first-preserved c =
    let kept = c.loop-first.invariant in
    let passes : is_of c.args.class c.in-Some.first ≡ true = grind (arith, c.has.ensures, c.if-not-has.false) in
    let grown = prefix-grows (is_of c.args.class) c.args.text.now kept.0 c.loop-first.rest.now c.in-Some.after.now c.in-Some.first
    c.utf8.text kept.1 kept.2 c.in-Some.ensures.bytes kept.3 passes in
    (kept.0 ++ encode_utf8 c.in-Some.first, grown.0, c.in-Some.ensures.text, grown.1)
