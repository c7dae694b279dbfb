use Rattle.std.proofs.Common.{◌≡◌, ◌∙◌, ◌-◌, ◌+◌, ◌<◌, ℕ, drop, get_or, length, map, subst, sym, arith}
use Rattle.px_terms.specs.declared.atom.Atom.{Atom}
use Rattle.px_gaps.specs.Bounds.{IsBoundBy}
use Rattle.px_gaps.proofs.ListBounds.{by_table-cons, by_table-nil}
use Rattle.px_gaps.proofs.bounds.bound_of_formula.Goals as goal

pub loop-passed-init : goal.loop-passed-init
loop-passed-init c = by_table-nil c.args.table.now c.args.formula.now (length c.args.formula.now - 0) (omega arith)

pub loop-passed-preserved : goal.loop-passed-preserved
loop-passed-preserved c =
    let formula = c.args.formula.now in
    let passed = c.loop-passed.passed in
    let atom = c.index-formula-formula.result in
    let below : passed < length formula = c.loop-passed-test.true in
    let from : length formula - passed - 1 ≡ length formula - (passed + 1) = omega arith in
    let here : atom ≡ get_or formula (length formula - (passed + 1)) atom =
    subst (λ (k : ℕ). atom ≡ get_or formula k atom) from c.index-formula-formula.is in
    by_table-cons c.args.table.now formula (length formula - (passed + 1))
    (length formula - passed) c.pred.result atom c.in_ok-first.first c.loop-passed.bound c.in_ok-bound.bound (omega (arith, below))
    (omega (arith, below)) here c.pred.ensures
    (sym c.in_ok-first.was ∙ c.bound_in.ensures) c.in_ok-bound.ensures c.loop-passed.invariant

pub returns : goal.returns
returns c =
    let formula = c.args.formula.now in
    let whole : length formula - c.loop-passed.passed ≡ 0 = omega (arith, c.loop-passed-test.false) in
    subst (λ (from : ℕ). IsBoundBy c.args.table.now (map (λ (a : Atom). a.pred) (drop from formula)) c.loop-passed.bound) whole
    c.loop-passed.invariant
