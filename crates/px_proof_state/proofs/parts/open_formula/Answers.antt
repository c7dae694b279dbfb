use Rattle.std.proofs.Common.{◌≡◌, ◌-◌, ℕ, length, ◌++◌, ◌∷◌, [], ◌∙◌, arith, ap}
use Rattle.px_proof.specs.Literals.{positive_of}
use Rattle.px_proof_state.proofs.Opening.{asked-start, asked-next}
use Rattle.px_proof_state.proofs.parts.open_formula.Goals as goal

pub loop-done-init : goal.loop-done-init
loop-done-init c = asked-start c.args.formula.now c.args.height c.args.goals.now.items _ c.requires (omega arith)

pub loop-done-preserved : goal.loop-done-preserved
loop-done-preserved c =
    let now : ℕ = length c.args.formula.now - 1 - c.loop-done.done in
    asked-next c.args.formula.now c.args.height c.loop-done.goals.items c.loop-done.first _ now c.loop-done.invariant
    (omega (arith, c.loop-done-test.true)) (omega (arith, c.loop-done-test.true)) c.index-formula-formula.result
    _ _ _ (omega (arith, c.loop-done-test.true))
    (c.in-Ok.ensures.items ∙ ap (λ atom. c.loop-done.goals.items
    ++ record { lit = positive_of atom; above = 0; next = c.loop-done.first; budget = c.args.height } ∷ []) c.index-formula-formula.is)
    c.in-Ok.ensures.place

pub returns-clause-opened : goal.returns-clause-opened
returns-clause-opened c =
    let none : length c.args.formula.now - c.loop-done.done ≡ 0 = omega (arith, c.loop-done-test.false) in
    rw none at c.loop-done.invariant.opened
