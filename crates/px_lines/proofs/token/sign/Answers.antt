use Rattle.px_lines.proofs.Common.{refl, arith}
use Rattle.px_lines.proofs.Scans.{scan-found, sign-begins, no-sign}
use Rattle.px_lines.proofs.token.sign.Goals as goal

pub returns-in_err-first : goal.returns-in_err-first
returns-in_err-first c = let none = no-sign c.args.text.now c.skip_while.result.now c.utf8.text c.skip_while.utf8 c.skip_while.ensures
    (λ s rest e. let empty = c.in_err-first.ensures.characters in cc) in
    rw c.from_residual.ensures none

pub returns-then-is_sign : goal.returns-then-is_sign
returns-then-is_sign c = let begins = sign-begins c.args.text.now c.skip_while.result.now c.utf8.text c.skip_while.utf8 c.skip_while.ensures
    c.in_ok-first.first c.in_ok-first.rest.now c.in_ok-first.ensures.characters (grind (arith, c.is_sign.ensures, c.if-is_sign.true)) in
    let both = scan-found c.args.text.now c.in_ok-first.rest.now _ begins in
    (rw both.0 refl, (c.in_ok-first.ensures.text, both.1))

pub returns-else-is_sign : goal.returns-else-is_sign
returns-else-is_sign c = no-sign c.args.text.now c.skip_while.result.now c.utf8.text c.skip_while.utf8 c.skip_while.ensures
    (λ s rest e is. let there = c.in_ok-first.ensures.characters in let not_sign = c.if-is_sign.false in let test = c.is_sign.ensures in cc)
