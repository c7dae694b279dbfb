use Rattle.std.proofs.Common.{◌≡◌, ◌+◌, ◌-◌, ◌<◌, ◌++◌, ◌∷◌, [], ◌∙◌, length, suc, ℕ, arith, ap}
use Rattle.px_proof.specs.Literals.{substitute_literal, complement_of}
use Rattle.px_proof_state.specs.Steps.{no_literal}
use Rattle.px_proof_state.proofs.Opening.{opened-start, opened-pass, opened-take, parts-all}
use Rattle.px_proof_state.proofs.parts.push_parts.Goals.{then-k-place+in-Ok, else-k-place}
use Rattle.px_proof_state.proofs.parts.push_parts.Goals as goal

pub loop-done-init : goal.loop-done-init
loop-done-init c =
    opened-start c.args.goals.now.items c.args.lits.now c.args.theta.now c.args.place c.args.at c.args.goal.now.next
    (c.args.goal.now.budget - 1) _ (omega arith) c.requires.next_older

pub loop-done-preserved : goal.loop-done-preserved
loop-done-preserved c =
    let now : ℕ = length c.args.lits.now - 1 - c.loop-done.done in
    let within : now < length c.args.lits.now = omega (arith, c.loop-done-test.true) in
    let after : length c.args.lits.now - c.loop-done.done ≡ suc now = omega (arith, c.loop-done-test.true) in
    let next : length c.args.lits.now - (c.loop-done.done + 1) ≡ now = omega (arith, c.loop-done-test.true) in
    elim c.if-k-place.branch [
      | then-k-place+in-Ok w ↦ opened-take c.args.goals.now.items c.args.lits.now c.args.theta.now c.args.place c.args.at
          c.args.goal.now.next (c.args.goal.now.budget - 1)
          c.loop-done.goals.items c.loop-done.first _ now c.loop-done.invariant after within w.index-lits-k.result _ _ _
          w.complement-opposite.result next w.if-k-place.true c.requires.at_older
          (w.complement-opposite.ensures
          ∙ ap complement_of (w.apply_literal-lit.ensures ∙ ap (substitute_literal c.args.theta.now) w.index-lits-k.is))
          (ap (λ v. v.items) w.goals-is ∙ w.in-Ok.ensures.items
          ∙ ap (λ b. c.loop-done.goals.items
          ++ record { lit = w.complement-opposite.result; above = c.args.at; next = c.loop-done.first; budget = b } ∷ [])
          w.saturating_sub.ensures) (w.first-is ∙ w.in-Ok.ensures.place)
      | else-k-place w ↦ opened-pass c.args.goals.now.items c.args.lits.now c.args.theta.now c.args.place c.args.at c.args.goal.now.next
          (c.args.goal.now.budget - 1)
          c.loop-done.goals.items c.loop-done.first _ now c.loop-done.invariant after within no_literal _ _ _ next w.if-k-place.false
          (ap (λ v. v.items) w.goals-is) w.first-is
    ]

pub returns-clause-opened : goal.returns-clause-opened
returns-clause-opened c =
    let none : length c.args.lits.now - c.loop-done.done ≡ 0 = omega (arith, c.loop-done-test.false) in
    rw (parts-all c.args.lits.now c.args.theta.now c.args.place _ none) at c.loop-done.invariant.opened
