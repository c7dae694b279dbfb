use Rattle.std.proofs.Common.{◌≡◌, ◌∙◌, ◌-◌, ◌+◌, ◌<◌, ℕ, drop, get_or, length, subst, sym, arith}
use Rattle.px_gaps.specs.Bounds.{IsBoundBefore}
use Rattle.px_gaps.proofs.BoundLoops.{before-cons, before-nil, preds_of}
use Rattle.px_gaps.proofs.bounds.bound_before.Goals as goal

pub loop-passed-init : goal.loop-passed-init
loop-passed-init c = before-nil c.args.table.now c.args.lits.now (length c.args.lits.now - 0) c.args.rest (omega arith)

pub loop-passed-preserved : goal.loop-passed-preserved
loop-passed-preserved c =
    let lits = c.args.lits.now in
    let passed = c.loop-passed.passed in
    let lit = c.index-lits-lits.result in
    let below : passed < length lits = c.loop-passed-test.true in
    let from : length lits - passed - 1 ≡ length lits - (passed + 1) = omega arith in
    let here : lit ≡ get_or lits (length lits - (passed + 1)) lit = subst (λ (k : ℕ). lit ≡ get_or lits k lit) from c.index-lits-lits.is in
    before-cons c.args.table.now lits (length lits - (passed + 1))
    (length lits - passed) c.pred.result lit c.in_ok-first.first c.args.rest c.loop-passed.bound c.in_ok-bound.bound
    (omega (arith, below)) (omega (arith, below)) here c.pred.ensures
    (sym c.in_ok-first.was ∙ c.bound_in.ensures) c.in_ok-bound.ensures c.loop-passed.invariant

pub returns : goal.returns
returns c =
    let lits = c.args.lits.now in
    let whole : length lits - c.loop-passed.passed ≡ 0 = omega (arith, c.loop-passed-test.false) in
    subst (λ (from : ℕ). IsBoundBefore c.args.table.now (preds_of (drop from lits)) c.args.rest c.loop-passed.bound) whole
    c.loop-passed.invariant
