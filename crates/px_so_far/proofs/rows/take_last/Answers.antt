use Rattle.px_so_far.proofs.Common.{◌≡◌, ◌-◌, ◌∙◌, ap, arith, common_steps, drop, length, take}
use Rattle.px_so_far.proofs.ProofHeights.{last-taken}
use Rattle.px_so_far.proofs.rows.take_last.Goals as goal

pub returns-clause-taken : goal.returns-clause-taken
returns-clause-taken c =
    let old = c.args.proofs.now.items in
    let len : c.len.result ≡ length old = grind (arith, common_steps) in
    let kept : c.saturating_sub-kept.result ≡ length old - c.args.count = omega (arith, c.saturating_sub-kept.ensures, len) in
    c.reverse.ensures.items ∙ (last-taken old c.split_off.new.self.items c.in_ok-taken.taken.items c.args.count
    (c.in_ok-taken.ensures.items ∙ ap (λ n. take n old) kept) (c.in_ok-taken.ensures.tail ∙ ap (λ n. drop n old) kept)).0

pub returns-clause-rest : goal.returns-clause-rest
returns-clause-rest c =
    let old = c.args.proofs.now.items in
    let len : c.len.result ≡ length old = grind (arith, common_steps) in
    let kept : c.saturating_sub-kept.result ≡ length old - c.args.count = omega (arith, c.saturating_sub-kept.ensures, len) in
    (last-taken old c.split_off.new.self.items c.in_ok-taken.taken.items c.args.count
    (c.in_ok-taken.ensures.items ∙ ap (λ n. take n old) kept) (c.in_ok-taken.ensures.tail ∙ ap (λ n. drop n old) kept)).1
